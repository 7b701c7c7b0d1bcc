-- The header in the first bytes: how the program goes on from there. Assumes nothing.
use Prim.Native.Nat.{ℕ, ◌≤◌}
use mathlib.Core.Path.{◌≡◌, sym, ap, ◌∙◌, subst}
use mathlib.Core.Bool.{Bool}
use mathlib.Core.List.{List, [], ◌++◌, append-nil}
use mathlib.Core.Logic.{◌⊎◌, inl, inr, ⊎_elim}
use native.Mathlib.Omega.{arith}
use lib.Dec.{ltb}
use lib.ListN.{length, drop}
use lib.Seq.{drop-append-le}
use Rattle.rules.specs.Run.{fresh}
use Rattle.rules.specs.declared.Refusal.{Refusal}
use Rattle.rules.specs.declared.Settings.{Settings}
use Rattle.rules.proofs.Conditions.{counted_means}
use Rattle.table.specs.Columns.{most_guests}
use Rattle.lines.specs.Line.{refusal_line}
use Rattle.trace.specs.Header.{first_version, last_version, guests_of, body, settings_in, header_of, Header}
use Rattle.trace.proofs.HeaderLaws.{Opens, opened}
use Rattle.trace.proofs.FirstRead.{longest, longest-fits, settings-same, header_same}
use Rattle.stream.specs.Outcome.{May, Last, First}
use Rattle.stream.proofs.Firsts.{full_or_all}
use Rattle.book.specs.Page.{first_page}
use Rattle.pages.specs.Sheet.{Stand, closing, begun_sheet, sheet_by, sheet_of}
use Rattle.pages.specs.Standing.{more, Standing}
use Rattle.pages.proofs.Fairness.{fair-first}
use Rattle.std.specs.Prelude.{Ok, Err}
use Rattle.trace.specs.declared.Opened.{Opened}

-- FIRST BYTES bs that hold any header, or are all there is, and the bytes behind them
module _ (bs later : List ℕ) where
  -- the header is theirs
  header_on : (longest ≤ length bs) ⊎ (later ≡ []) → header_of (bs ++ later) ≡ header_of bs
  header_on (inl long) = header_same bs later long
  header_on (inr none) = ap (λ (l : List ℕ). header_of (bs ++ l)) none ∙ ap header_of (append-nil bs)

  -- the events begin in them
  begun_on : (h : Opened) → header_of bs ≡ Ok h → (longest ≤ length bs) ⊎ (later ≡ []) → begun_sheet h (bs ++ later) ≡ more (begun_sheet h bs) later
  begun_on h e (inl long) =
      let o : Opens first_version last_version bs h = opened bs h e in
      let few : guests_of bs ≤ most_guests = ((counted_means h.depth (guests_of bs) h.capacity).holds.0 (rw o.guests_is at o.counts)).guest-count.1 in
      ap (λ (ss : List Settings). record { version = h.version; bytes = drop (body h.version h.guests) (bs ++ later); page = first_page (fresh h.depth h.capacity h.rule ss) }) (settings-same bs later long few)
      ∙ ap (λ (l : List ℕ). record { version = h.version; bytes = l; page = first_page (fresh h.depth h.capacity h.rule (settings_in bs)) }) (drop-append-le (body h.version h.guests) bs later o.whole)
  begun_on h e (inr none) =
      ap (λ (l : List ℕ). begun_sheet h (bs ++ l)) none
      ∙ ap (begun_sheet h) (append-nil bs)
      ∙ ap (λ (l : List ℕ). record { version = h.version; bytes = l; page = first_page (fresh h.depth h.capacity h.rule (settings_in bs)) }) (sym (append-nil (drop (body h.version h.guests) bs)))
      ∙ ap (more (begun_sheet h bs)) (sym none)

  -- what is printed of a bad header
  sheet-refused : (why : Refusal) → header_of bs ≡ Err why → (longest ≤ length bs) ⊎ (later ≡ []) → sheet_of (bs ++ later) ≡ refusal_line why
  unfolding sheet_of
  sheet-refused why e w = ap (λ (h : Header). sheet_by h (bs ++ later)) (header_on w ∙ e)

  -- and of a good one
  sheet-opened : (h : Opened) → header_of bs ≡ Ok h → (longest ≤ length bs) ⊎ (later ≡ []) → sheet_of (bs ++ later) ≡ closing (more (begun_sheet h bs) later)
  unfolding sheet_of
  sheet-opened h e w = ap (λ (h : Header). sheet_by h (bs ++ later)) (header_on w ∙ e) ∙ ap closing (begun_on h e w)

-- THE FIRST BYTES ARE READ
module _ (n : ℕ) (bs : List ℕ) (f : First n bs) where
  whole_or_all : (later : List ℕ) → May f.tape later → (longest ≤ length bs) ⊎ (later ≡ [])
  whole_or_all later may = ⊎_elim (λ full. inl (longest-fits (length bs) (omega arith))) inr (full_or_all n bs later f may)

  -- a bad header: its line is the last
  pub refused_last : (why : Refusal) → header_of bs ≡ Err why → Last sheet_of n (refusal_line why)
  refused_last why e =
      record {
        tape = f.tape;
        held = f.held;
        lacks = λ later may.
            ap (λ (l : List ℕ). sheet_of (l ++ later)) f.read
            ∙ sheet-refused bs later why e (whole_or_all later may)
            ∙ ap (λ (l : List ℕ). l ++ refusal_line why) (sym f.wrote);
      }

  -- a good one: the reading stands where the events begin
  pub opened-standing : (h : Opened) → header_of bs ≡ Ok h → (ended : Bool) → ltb (length bs) 4096 ≡ ended → (s : Stand) → s ≡ begun_sheet h bs → Standing ended n s
  opened-standing h e ended mark s here =
      subst (λ (x : Stand). Standing ended n x) (sym here)
      (record {
        tape = f.tape;
        held = f.held;
        mark = f.mark ∙ mark;
        wrote = f.wrote;
        stands = λ later may. ap (λ (l : List ℕ). sheet_of (l ++ later)) f.read ∙ sheet-opened bs later h e (whole_or_all later may);
        fair = fair-first h.depth h.capacity h.rule (settings_in bs);
      })
