-- Readings of the sheet, as one table under a single statement: document 01's example, and small runs that shut out plausible errors of the figures.
-- Assumes nothing.
use mathlib.Core.Path.{◌≡◌, refl, ap₂}
use mathlib.Core.Bool.{Bool, true, false, ◌&&◌, false≢true}
use mathlib.Core.List.{List, [], ◌∷◌}
use Prim.Native.Nat.{ℕ}
use lib.Dec.{eqb}
use borrow.Author.Tests.{eqb-true}
use Rattle.lists.specs.WordsLaws.{both}
use Rattle.rules.specs.Tables.{Table}
use Rattle.rules.specs.Run.{fresh}
use Rattle.rules.specs.declared.Event.{Event}
use Rattle.rules.specs.declared.Event.TheVariants.{Tick}
use Rattle.rules.proofs.Trials.{ms, settings, comes, ends, three, lines}
use Rattle.rules.proofs.Readings.{one_by, one, ten}
use Rattle.book.specs.Book.{Entry}
use Rattle.book.specs.Figures.{Figures}
use Rattle.book.specs.Page.{lies_ahead, booked, turned, turned_by, first_page}
use Rattle.book.specs.Waits.{waits_by}

-- figures in the order of the sheet
abbrev sheet : (arrivals completions reservation weight ahead longest summed : ℕ) → Figures
sheet a c r w h l s = record { arrivals = a; completions = c; reservation = r; weight = w; ahead = h; longest = l; summed = s }

-- the same figures, as a test: what a run comes to is found by computing it
alike : Figures → Figures → Bool
alike f k =
    eqb f.arrivals k.arrivals && eqb f.completions k.completions && eqb f.reservation k.reservation && eqb f.weight k.weight
    && eqb f.ahead k.ahead && eqb f.longest k.longest && eqb f.summed k.summed

-- the same figures of every guest
agree : List Figures → List Figures → Bool
agree [] [] = true
agree [] (k ∷ m) = false
agree (f ∷ l) [] = false
agree (f ∷ l) (k ∷ m) = alike f k && agree l m

-- the test says so
alike_is : (f k : Figures) → alike f k ≡ true → f ≡ k
unfolding alike
alike_is f k h =
    let h7 = both _ _ h in
    let h6 = both _ _ h7.0 in
    let h5 = both _ _ h6.0 in
    let h4 = both _ _ h5.0 in
    let h3 = both _ _ h4.0 in
    let h2 = both _ _ h3.0 in
    let a : f.arrivals ≡ k.arrivals = eqb-true _ _ h2.0 in
    let c : f.completions ≡ k.completions = eqb-true _ _ h2.1 in
    let r : f.reservation ≡ k.reservation = eqb-true _ _ h3.1 in
    let w : f.weight ≡ k.weight = eqb-true _ _ h4.1 in
    let d : f.ahead ≡ k.ahead = eqb-true _ _ h5.1 in
    let l : f.longest ≡ k.longest = eqb-true _ _ h6.1 in
    let s : f.summed ≡ k.summed = eqb-true _ _ h7.1 in
    λ i. record { arrivals = a i; completions = c i; reservation = r i; weight = w i; ahead = d i; longest = l i; summed = s i }

-- of every guest
agree_is : (l m : List Figures) → agree l m ≡ true → l ≡ m
unfolding agree
agree_is [] [] h = refl
agree_is [] (k ∷ m) h = absurd (false≢true h)
agree_is (f ∷ l) [] h = absurd (false≢true h)
agree_is (f ∷ l) (k ∷ m) h = let c = both (alike f k) (agree l m) h in ap₂ ◌∷◌ (alike_is f k c.0) (agree_is l m c.1)

-- the figures after a run
abbrev figures_after : Table → List Event → List Figures
figures_after t es = (turned_by (first_page t) es).figures

-- the book after a run
abbrev book_after : Table → List Event → List Entry
book_after t es = (turned_by (first_page t) es).book

-- the waits of guest g in a run
abbrev waits_after : ℕ → Table → List Event → List ℕ
waits_after g t es = waits_by g (first_page t) es

-- one guest, whose reservation is its limit
abbrev even : Table
even = fresh 4 8 1 (settings 100 100 1 ∷ [])

-- one guest, without a limit
abbrev free : Table
free = fresh 4 8 1 (settings 100 0 1 ∷ [])

-- "Depth 1, two guests without reservation or limit, A with shares 1, B with shares 2."
abbrev two : Table
two = fresh 1 8 1 (settings 0 0 1 ∷ settings 0 0 2 ∷ [])

-- A's ids 1, 2, 3 at 0, B's id 1 at 100 ms; the completion of A1 sends A2, that of A2 sends B1
abbrev shared : List Event
shared = three (comes 1 1 100 ∷ ends 0 1 100 ∷ ends 0 2 150 ∷ [])

-- id 1 comes again after its completion, and waits behind id 2
abbrev again : List Event
again = comes 0 1 0 ∷ comes 0 2 1 ∷ ends 0 1 3 ∷ comes 0 1 4 ∷ ends 0 2 9 ∷ []

-- an id in use comes again, and one that is not in flight ends
abbrev refused : List Event
refused = comes 0 1 0 ∷ comes 0 1 0 ∷ comes 0 2 0 ∷ ends 0 2 1 ∷ []

-- the readings
pub record Readings : Type 0 where
  -- document 01's example: event 7 is sent by reservation with its limit tag 2 ms ahead
  pub ten_figures : figures_after one ten ≡ sheet 4 1 2 2 1 (ms 10) (ms 22) ∷ []
  pub ten-waits : waits_after 0 one ten ≡ 0 ∷ ms 4 ∷ ms 8 ∷ ms 10 ∷ []
  -- under rule 2 it is not sent, and no reservation send has its limit tag ahead
  pub ten_by_rule_2 : figures_after (one_by 2) ten ≡ sheet 4 1 1 2 0 (ms 8) (ms 12) ∷ []
  -- a limit tag that is now does not lie ahead, and that of a guest without a limit never does
  pub limit_now : figures_after even (three (Tick (ms 10) ∷ [])) ≡ sheet 3 0 2 0 0 (ms 10) (ms 10) ∷ []
  pub no_limit : figures_after free (three []) ≡ sheet 3 0 1 2 0 0 0 ∷ []
  -- each figure is its guest's own
  pub two_guests : figures_after two shared ≡ sheet 3 2 0 2 0 (ms 100) (ms 100) ∷ sheet 1 0 0 1 0 (ms 50) (ms 50) ∷ []
  pub left-waiting : book_after two shared ≡ record { guest = 0; id = 3; time = 0 } ∷ []
  -- a request that is sent at its own arrival waits for nothing, and leaves the book
  pub sent_at_once : figures_after two (comes 1 1 5 ∷ []) ≡ sheet 0 0 0 0 0 0 0 ∷ sheet 1 0 0 1 0 0 0 ∷ []
  pub not_in_the_book : book_after two (comes 1 1 5 ∷ []) ≡ []
  -- an id that comes again waits from its own arrival
  pub id_again : waits_after 0 two again ≡ 0 ∷ ms 2 ∷ ms 5 ∷ []
  -- refused events count nowhere
  pub refusals : figures_after two refused ≡ sheet 2 0 0 1 0 0 0 ∷ sheet 0 0 0 0 0 0 0 ∷ []

-- they all hold
pub readings : Readings
unfolding lines lies_ahead booked turned turned_by waits_by alike agree
readings =
    record {
      ten_figures = agree_is (figures_after one ten) (sheet 4 1 2 2 1 (ms 10) (ms 22) ∷ []) refl;
      ten-waits = refl;
      ten_by_rule_2 = agree_is (figures_after (one_by 2) ten) (sheet 4 1 1 2 0 (ms 8) (ms 12) ∷ []) refl;
      limit_now = agree_is (figures_after even (three (Tick (ms 10) ∷ []))) (sheet 3 0 2 0 0 (ms 10) (ms 10) ∷ []) refl;
      no_limit = agree_is (figures_after free (three [])) (sheet 3 0 1 2 0 0 0 ∷ []) refl;
      two_guests = agree_is (figures_after two shared) (sheet 3 2 0 2 0 (ms 100) (ms 100) ∷ sheet 1 0 0 1 0 (ms 50) (ms 50) ∷ []) refl;
      left-waiting = refl;
      sent_at_once = agree_is (figures_after two (comes 1 1 5 ∷ [])) (sheet 0 0 0 0 0 0 0 ∷ sheet 1 0 0 1 0 0 0 ∷ []) refl;
      not_in_the_book = refl;
      id_again = refl;
      refusals = agree_is (figures_after two refused) (sheet 2 0 0 1 0 0 0 ∷ sheet 0 0 0 0 0 0 0 ∷ []) refl;
    }
