-- What is printed, by what was read and written so far: at the header, over a turn, over a read, and at the end. Assumes nothing.
use Prim.Native.Nat.{ℕ, ◌+◌, ◌*◌, ◌≤◌, ◌<◌}
use mathlib.Core.Path.{◌≡◌, refl, sym, ap, ◌∙◌}
use mathlib.Core.Bool.{true, false, false≢true}
use mathlib.Core.List.{List, [], ◌∷◌, ◌++◌, append_assoc, append-nil}
use mathlib.Core.Logic.{◌⊎◌, inl, inr, ⊎_elim}
use native.Mathlib.Omega.{arith}
use native.Mathlib.Nat.{add-zero}
use lib.ListN.{length, take, drop}
use borrow.Author.Tests.{le-leb}
use Rattle.rules.specs.declared.Refusal.{Refusal}
use Rattle.lines.specs.Line.{refusal_line, title_line}
use Rattle.port.specs.Tape.{Tape}
use Rattle.port.specs.Moves.{brought}
use Rattle.port.specs.declared.Moved.TheVariants.{Bytes, Nothing}
use Rattle.stream.specs.Runs.{written}
use Rattle.stream.specs.Outcome.{May, Right, Lacks, First}
use Rattle.stream.proofs.Firsts.{full_or_all}
use Rattle.trace.specs.Header.{body, header_of, Header}
use Rattle.trace.specs.Event.{events_of, whole}
use Rattle.trace.specs.Printed.{Place, answers_to, lines_from, lines, left, cut, finished, begun, printed}
use Rattle.trace.specs.Reads.{joined, more, as_read, printed_first, printed_reads}
use Rattle.trace.proofs.FirstRead.{longest, longest-fits}
use Rattle.trace.proofs.Split.{reads_joined}
use Rattle.trace.proofs.AnySplit.{any_split}
use Rattle.prints.specs.Standing.{Stands}
use Rattle.std.specs.Prelude.{Ok, Err}
use Rattle.trace.specs.declared.Opened.{Opened}

-- THE HEADER

-- the first read is judged as a header where it holds any header, or is all there is
first_read : (bs : List ℕ) (rs : List (List ℕ)) → (longest ≤ length bs) ⊎ (rs ≡ []) → printed_first (header_of bs) bs rs ≡ printed (bs ++ joined rs)
unfolding printed_reads joined body
first_read bs [] w = any_split longest (omega arith) (bs ∷ [])
first_read bs (r ∷ rs) (inl long) = (rw (le-leb longest (length bs) long)) ∙ any_split longest (omega arith) (bs ∷ r ∷ rs)
first_read bs (r ∷ rs) (inr none) = absurd (omega (arith, ap length none))

-- so with more bytes, or none, behind it
first_more : (bs later : List ℕ) → (longest ≤ length bs) ⊎ (later ≡ []) → (rs : List (List ℕ)) × (printed_first (header_of bs) bs rs ≡ printed (bs ++ later)) × (joined rs ≡ later)
unfolding joined
first_more bs later (inl long) = (later ∷ [], first_read bs (later ∷ []) (inl long) ∙ ap (λ (l : List ℕ). printed (bs ++ l)) (append-nil later), append-nil later)
first_more bs later (inr none) = ([], first_read bs [] (inr refl) ∙ ap (λ (l : List ℕ). printed (bs ++ l)) (sym none), sym none)

-- the first bytes hold any header, or are all there is
whole_or_all : (n : ℕ) (bs later : List ℕ) (f : First n bs) → May f.tape later → (longest ≤ length bs) ⊎ (later ≡ [])
whole_or_all n bs later f may = ⊎_elim (λ full. inl (longest-fits (length bs) (omega arith))) inr (full_or_all n bs later f may)

-- a bad header: its line is all that is printed
pub refused-lacks : (n : ℕ) (bs : List ℕ) (f : First n bs) (why : Refusal) → header_of bs ≡ Err why → Lacks printed (refusal_line why) f.tape
refused-lacks n bs f why e later may =
    let x = first_more bs later (whole_or_all n bs later f may) in
    ap (λ (l : List ℕ). printed (l ++ later)) f.read
    ∙ sym x.1
    ∙ ap (λ (h : Header). printed_first h bs x.0) e
    ∙ ap (λ (l : List ℕ). l ++ refusal_line why) (sym f.wrote)

-- a good one: the header line, and then the lines from where the events begin
pub opened-stands : (n : ℕ) (bs : List ℕ) (f : First n bs) (o : Opened) → header_of bs ≡ Ok o → Stands (written title_line f.tape) (begun o bs)
opened-stands n bs f o e later may =
    let x = first_more bs later (whole_or_all n bs later f may) in
    ap (λ (l : List ℕ). printed (l ++ later)) f.read
    ∙ sym x.1
    ∙ ap (λ (h : Header). printed_first h bs x.0) e
    ∙ ap (λ (l : List ℕ). title_line ++ l) (reads_joined x.0 (begun o bs) ∙ ap (λ (l : List ℕ). finished (more (begun o bs) l)) x.2)
    ∙ ap (λ (l : List ℕ). (l ++ title_line) ++ finished (more (begun o bs) later)) (sym f.wrote)

-- A PLACE

-- where no whole event is left, only the line of a cut one is
finished_few : (p : Place) → length p.bytes < 14 → finished p ≡ cut p.number p.bytes
unfolding finished lines left events_of answers_to lines_from
finished_few p few =
    let z : whole p.bytes ≡ 0 = omega arith in
    ap (λ (k : ℕ). lines_from p.number (answers_to p.table (events_of p.version k p.bytes)) ++ cut (p.number + k) (drop (k * 14) p.bytes)) z
    ∙ ap (λ (k : ℕ). cut k p.bytes) (add-zero p.number)

module _ (t : Tape) (p : Place) (s : Stands t p) where
  -- what was written is right there
  pub stands_right : Right printed t
  stands_right later may = (finished (more p later), s later may)

  -- and the lines of the place may follow
  turned : (later : List ℕ) → finished (more p later) ≡ lines p ++ finished (more (left p) later)
  unfolding as_read joined
  turned later = ap (λ (l : List ℕ). finished (more p l)) (sym (append-nil later)) ∙ sym (reads_joined (later ∷ []) p)

  pub stands-lines : Stands (written (lines p) t) (left p)
  stands-lines later may =
      s later may
      ∙ ap (λ (l : List ℕ). t.wrote ++ l) (turned later)
      ∙ sym (append_assoc t.wrote (lines p) (finished (more (left p) later)))

  -- the input goes on: bytes came
  pub stands-more : t.ended ≡ false → (k : ℕ) (bs : List ℕ) → Stands (brought (Bytes k) bs t) (more p (take k bs))
  stands-more o k bs later may =
      ap printed (append_assoc t.read (take k bs) later)
      ∙ s (take k bs ++ later) (λ e. absurd (false≢true (sym o ∙ e)))
      ∙ ap (λ (l : List ℕ). t.wrote ++ finished (record { version = p.version; bytes = l; table = p.table; number = p.number })) (sym (append_assoc p.bytes (take k bs) later))

  -- or there are no more
  pub stands-none : t.ended ≡ false → (bs : List ℕ) → Stands (brought Nothing bs t) p
  stands-none o bs later may = s later (λ e. absurd (false≢true (sym o ∙ e)))

  -- at the end the line of a cut event is all that is missing
  pub stands_last : t.ended ≡ true → length p.bytes < 14 → Lacks printed (cut p.number p.bytes) t
  stands_last o few later may =
      s later may
      ∙ ap (λ (l : List ℕ). t.wrote ++ finished (more p l)) (may o)
      ∙ ap (λ (l : List ℕ). t.wrote ++ finished (record { version = p.version; bytes = l; table = p.table; number = p.number })) (append-nil p.bytes)
      ∙ ap (λ (l : List ℕ). t.wrote ++ l) (finished_few p few)
