-- The ends of the share tags, guest by guest: what is held after some guests, where the first and the last row of each are read. Assumes nothing.
use Rattle.std.specs.Prelude.{ℕ, zero, suc, ◌+◌, ◌-◌, ◌≤◌, ◌<◌, min, max, ◌≡◌, refl, Bool, true, false, List, [], ◌∷◌, map, ltb, eqb, length, get_or}
use Rattle.std.proofs.Common.{sym, ◌∙◌, arith, ltb-true, ltb-false, eqb-true}
use Rattle.std.proofs.lemmas.Bool.{eqb-false}
use Rattle.lists.specs.Words.{lowest}
use Rattle.lists.specs.WordsLaws.{lowest-of, lowest_under}
use Rattle.lists.specs.RowsLaws.{length-rows}
use Rattle.rules.specs.Tables.{Request}
use Rattle.rules.specs.Chosen.{blank}
use Rattle.table.specs.Columns.{most_guests}
use Rattle.table.specs.View.{request_form, waiting_of}
use Rattle.walks.specs.Walks.{Owned, Rising}
use Rattle.walks.specs.WalksRows.{stag_at}
use Rattle.walks.specs.Survey.{tag_of, highest}
use Rattle.index.specs.Index.{first_at, last_at, owner_of, NoRow, Head, Tail, Trails, Indexed}
use Rattle.seeks.specs.Reads.{row_here, head_first, tail_last, rising_on, guests_more}

-- THE LARGEST OF A LIST

-- it is no smaller than any
highest-over : {A : Type 0} (f : A → ℕ) (l : List A) (d : A) (i : ℕ) → i < length l → f (get_or l i d) ≤ highest (map f l)
unfolding highest
highest-over f [] d i h = absurd (omega arith)
highest-over f (x ∷ l) d zero h = omega arith
highest-over f (x ∷ l) d (suc i) h = omega (arith, highest-over f l d i (omega arith))

-- and no larger than what none is above
highest_under : {A : Type 0} (f : A → ℕ) (l : List A) (d : A) (m : ℕ) → ((i : ℕ) → i < length l → f (get_or l i d) ≤ m) → highest (map f l) ≤ m
unfolding highest
highest_under f [] d m h = omega arith
highest_under f (x ∷ l) d m h = omega (arith, h 0 (omega arith), highest_under f l d m (λ i k. h (suc i) (omega arith)))

-- THE ROWS THAT ARE READ

-- where a guest's first row and its last stand
pub record Told (ws ix : List ℕ) (n g : ℕ) : Type 0 where
  pub inside : first_at ix g - 1 < n
  pub head : Head ws g 0 (first_at ix g - 1)
  pub some : 0 < last_at ix g
  pub tail : Tail ws g n (last_at ix g - 1)

-- a guest that has a first row has a last one
pub told : {ws ix : List ℕ} {n : ℕ} → Indexed ws ix n → (g : ℕ) → g < most_guests → 0 < first_at ix g → Told ws ix n g
told {ws} {ix} {n} i g known more = go (row_here (i.first g known) more) (i.last g known) (eqb (last_at ix g) 0) refl
  where
    go : (first_at ix g - 1 < n) × Head ws g 0 (first_at ix g - 1) → Trails ws g n (last_at ix g) → (b : Bool) → eqb (last_at ix g) 0 ≡ b → Told ws ix n g
    go r t true e = absurd (t.none (eqb-true (last_at ix g) 0 e) (first_at ix g - 1) (omega arith) r.0 r.1.own)
    go r t false e =
        let some : 0 < last_at ix g = omega (arith, eqb-false (last_at ix g) 0 e) in
        record { inside = r.0; head = r.1; some = some; tail = t.some (last_at ix g - 1) (omega (arith, some)) }

-- THE ENDS

-- x is the share tag of one of the first n rows
abbrev pub OneOf : (ws : List ℕ) (n x : ℕ) → Type 0
OneOf ws n x = (k : ℕ) × (k < n) × (tag_of ws k ≡ x)

-- two share tags, between which those of the guests before g lie
pub record Spanned (ws : List ℕ) (n g least most : ℕ) : Type 0 where
  pub low : OneOf ws n least
  pub high : OneOf ws n most
  pub within : (k : ℕ) → k < n → owner_of ws k < g → (least ≤ tag_of ws k) × (tag_of ws k ≤ most)

module _ (ws : List ℕ) (n : ℕ) where
  -- before the first guest, by the first row
  pub spanned_start : 0 < n → Spanned ws n 0 (tag_of ws 0) (tag_of ws 0)
  spanned_start some = record { low = (0, some, refl); high = (0, some, refl); within = λ k here l. absurd (omega (arith, l)) }

  -- the smaller of two share tags is one
  one-min : {x y : ℕ} → OneOf ws n x → OneOf ws n y → OneOf ws n (min x y)
  one-min {x} {y} (j, h, e) (k, l, f) = go (ltb x y) refl
    where
      go : (b : Bool) → ltb x y ≡ b → OneOf ws n (min x y)
      go true q = (j, h, omega (arith, e, ltb-true x y q))
      go false q = (k, l, omega (arith, f, ltb-false x y q))

  -- and so is the larger
  one-max : {x y : ℕ} → OneOf ws n x → OneOf ws n y → OneOf ws n (max x y)
  one-max {x} {y} (j, h, e) (k, l, f) = go (ltb x y) refl
    where
      go : (b : Bool) → ltb x y ≡ b → OneOf ws n (max x y)
      go true q = (k, l, omega (arith, f, ltb-true x y q))
      go false q = (j, h, omega (arith, e, ltb-false x y q))

  module _ {g least most : ℕ} (s : Spanned ws n g least most) where
    -- a guest with no row
    pub spanned_none : NoRow ws g 0 n → Spanned ws n (g + 1) least most
    spanned_none none =
        record {
          low = s.low;
          high = s.high;
          within = guests_more (λ k. (least ≤ tag_of ws k) × (tag_of ws k ≤ most)) ws n g s.within (λ k here own. absurd (none k (omega arith) here own));
        }

    -- a guest's rows lie between its first and its last
    pub spanned_next : Rising ws n → {i j : ℕ} → Head ws g 0 i → Tail ws g n j → Spanned ws n (g + 1) (min least (tag_of ws i)) (max most (tag_of ws j))
    spanned_next rising {i} {j} h t =
        record {
          low = one-min s.low (i, omega (arith, t.inside, head_first h t.own), refl);
          high = one-max s.high (j, t.inside, refl);
          within = guests_more (λ k. (min least (tag_of ws i) ≤ tag_of ws k) × (tag_of ws k ≤ max most (tag_of ws j))) ws n g
              (λ k here l. let w = s.within k here l in (omega (arith, w.0), omega (arith, w.1)))
              (λ k here own.
              let up = rising_on ws n i k rising (head_first h own) here (h.own ∙ sym own) in
              let down = rising_on ws n k j rising (tail_last t here own) t.inside (own ∙ sym t.own) in
              (omega (arith, up.2), omega (arith, down.2)));
        }

    -- behind the last guest they are the ends
    pub spanned_end : Owned ws n g → (least ≡ lowest (map Request.stag (waiting_of ws n))) × (most ≡ highest (map Request.stag (waiting_of ws n)))
    spanned_end owned = (bottom s.low, top s.high)
      where
        size : length (waiting_of ws n) ≡ n
        size = length-rows request_form ws n

        bottom : OneOf ws n least → least ≡ lowest (map Request.stag (waiting_of ws n))
        bottom (k, here, e) =
            let under = lowest_under Request.stag (waiting_of ws n) blank k (omega (arith, here, length-rows request_form ws n)) in
            let (i, h, f) = lowest-of Request.stag (waiting_of ws n) blank (omega (arith, here, length-rows request_form ws n)) in
            let there : i < n = omega (arith, h, length-rows request_form ws n) in
            omega (arith, e, under, f, stag_at ws n k here, stag_at ws n i there, s.within i there (owned i there))

        top : OneOf ws n most → most ≡ highest (map Request.stag (waiting_of ws n))
        top (k, here, e) =
            let over = highest-over Request.stag (waiting_of ws n) blank k (omega (arith, here, length-rows request_form ws n)) in
            let under = highest_under Request.stag (waiting_of ws n) blank most (λ i h. let there : i < n = omega (arith, h, length-rows request_form ws n) in omega (arith, stag_at ws n i there, s.within i there (owned i there))) in
            omega (arith, e, over, under, stag_at ws n k here)
