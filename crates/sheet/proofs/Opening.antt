-- The tables as the header opened them and figures that were cleared: they show the first page, and are known. Assumes nothing.
use Prim.Native.Nat.{ℕ, zero, suc, ◌+◌, ◌*◌, ◌≤◌, ◌<◌}
use mathlib.Core.Path.{◌≡◌, refl, sym, ap, ◌∙◌}
use mathlib.Core.List.{List, [], ◌∷◌, map}
use native.Mathlib.Omega.{arith}
use lib.ListN.{length, get_or, length-map, replicate, length-replicate}
use Rattle.lists.specs.Tab.{tab, is_tab}
use Rattle.lists.specs.RowsLaws.{length-rows}
use Rattle.rules.specs.Tables.{Table}
use Rattle.rules.specs.Run.{fresh}
use Rattle.rules.specs.declared.Gate.{Gate}
use Rattle.table.specs.View.{guest_form, request_form, guests_of, table_of}
use Rattle.table.proofs.Facts.{Facts, facts}
use Rattle.trace.specs.Header.{settings_in}
use Rattle.book.specs.Figures.{unseen, unseens}
use Rattle.book.specs.Page.{first_page}
use Rattle.tally.specs.Columns.{figures_wide, book_long, figures_long, figure_at}
use Rattle.tally.specs.Kept.{entry_at, book_of, figures_in, figures_of, page_of}
use Rattle.begin.specs.Begin.{Begins}
use Rattle.pages.specs.Sheet.{begun_sheet}
use Rattle.pages.specs.Standing.{stand_of, Firm}
use Rattle.std.proofs.lemmas.List.{get_or-replicate}
use Rattle.trace.specs.declared.Opened.{Opened}

-- a list of the same at every place
same_at : {A B : Type 0} (b : B) (l : List A) (k : ℕ) → get_or (map (λ x. b) l) k b ≡ b
same_at b [] k = refl
same_at b (x ∷ l) zero = refl
same_at b (x ∷ l) (suc k) = same_at b l k

module _ (o : Opened) (bs rest : List ℕ) (g : Gate) (gs ws fs bk fg : List ℕ) (b : Begins o bs rest g gs ws fs) (room : book_long ≤ length bk) (cleared : fg ≡ replicate figures_long 0) where
  f : Facts g gs ws fs
  f = facts g gs ws fs b.known

  -- every number of a guest's row is 0
  none : (k j : ℕ) → k < g.guests → j < figures_wide → figure_at fg k j ≡ 0
  none k j h few =
      let m = f.counts.guest-count.1 in
      ap (λ (l : List ℕ). get_or l (k * figures_wide + j) 0) cleared ∙ get_or-replicate figures_long (k * figures_wide + j) 0 0 (omega (arith, m, h, few))

  unseen-at : (k : ℕ) → k < g.guests → figures_in fg k ≡ unseen
  unseen-at k h = rw (none k 0 h (omega arith), none k 1 h (omega arith), none k 2 h (omega arith), none k 3 h (omega arith), none k 4 h (omega arith), none k 5 h (omega arith), none k 6 h (omega arith), none k 7 h (omega arith))

  -- nothing waits
  unwaited : g.waiting ≡ 0
  unfolding fresh
  unwaited = sym (length-rows request_form ws g.waiting) ∙ ap (λ (t : Table). length t.waiting) b.table

  books : book_of bk g.waiting ≡ []
  books = ap (λ (k : ℕ). tab k (entry_at bk)) unwaited

  seen : figures_of fg g.guests ≡ unseens (guests_of gs g.guests)
  seen =
      is_tab unseen g.guests (figures_in fg) (unseens (guests_of gs g.guests))
      (length-map (guests_of gs g.guests) (λ h. unseen) ∙ length-rows guest_form gs g.guests)
      (λ k h. unseen-at k h ∙ sym (same_at unseen (guests_of gs g.guests) k))

  -- the numbers stand where the events begin
  pub begun-stands : stand_of o.version rest g gs ws fs bk fg ≡ begun_sheet o bs
  begun-stands =
      let p : page_of g gs ws fs bk fg ≡ first_page (table_of g gs ws fs) = λ i. record { table = table_of g gs ws fs; book = books i; figures = seen i } in
      let q : page_of g gs ws fs bk fg ≡ first_page (fresh o.depth o.capacity o.rule (settings_in bs)) = p ∙ ap first_page b.table in
      λ i. record { version = o.version; bytes = b.bytes i; page = q i }

  -- and are known
  pub begun-firm : Firm 0 g gs ws fs bk fg
  begun-firm =
      record {
        known = b.known;
        kept = record {
          book_room = omega (arith, f.counts.capacities.1, room);
          figures_room = omega (arith, f.counts.guest-count.1, ap length cleared, length-replicate {A = ℕ} figures_long 0);
          matches = λ k h. absurd (omega (arith, unwaited));
          past = λ k h. absurd (omega (arith, unwaited));
          few = λ k j h l. omega (arith, none k j h (omega arith));
        };
      }
