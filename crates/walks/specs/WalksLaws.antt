-- A walk from the first row with a falling bound holds the row that stands foremost so far, and so ends at what `least` picks.
-- Assumes nothing.
use Rattle.std.specs.Prelude.{ℕ, ◌+◌, ◌*◌, ◌/◌, ◌≤◌, ◌<◌, ◌≡◌, Bool, List, ◌⊎◌, length, if◌then◌else◌, Some, None}
use Rattle.std.proofs.Math.Path.{refl}
use Rattle.std.proofs.Common.{sym, inl, inr, ⊎_elim, arith, below_none, below_more}
use Rattle.std.proofs.Math.Bool.{true, false}
use Rattle.std.proofs.Math.Dec.{ltb}
use borrow.Author.Tests.{ltb-true, ltb-false}
use Rattle.rules.specs.Tables.{Request}
use Rattle.rules.specs.Chosen.{at, Foremost}
use Rattle.rules.proofs.Places.{least_at, least-none}
use Rattle.table.specs.Columns.{waiting_wide}
use Rattle.walks.specs.Walks.{Picks, place_in}

-- of the first i rows that are ok, the one at `place` has the smallest tag, `bound`, and is the earliest of equal ones
pub record Holds (ok : Request → Bool) (tag : Request → ℕ) (rows : List Request) (i place bound : ℕ) : Type 0 where
  pub passed : place < i
  pub good : ok (at rows place) ≡ true
  pub tagged : bound ≡ tag (at rows place)
  pub earliest : (j : ℕ) → j < place → ok (at rows j) ≡ true → bound < tag (at rows j)

-- the walk after i rows: its place and bound are still `none` and `top`, or it holds the foremost so far
pub record Walk (ok : Request → Bool) (tag : Request → ℕ) (rows : List Request) (top none i place bound : ℕ) : Type 0 where
  pub low : bound ≤ top
  pub above : (j : ℕ) → j < i → ok (at rows j) ≡ true → bound ≤ tag (at rows j)
  pub held : ((place ≡ none) × (bound ≡ top)) ⊎ Holds ok tag rows i place bound

module _ {ok : Request → Bool} {tag : Request → ℕ} {rows : List Request} {top none : ℕ} where
  -- before the first row
  pub walk_start : Walk ok tag rows top none 0 none top
  walk_start = record { low = omega arith; above = below_none _; held = inl (refl, refl) }

  module _ {i place bound : ℕ} (w : Walk ok tag rows top none i place bound) where
    -- row i is ok and its tag is below the bound: it is taken
    pub walk_take : {m : ℕ} → ok (at rows i) ≡ true → tag (at rows i) ≡ m → m < bound → Walk ok tag rows top none (i + 1) i m
    walk_take {m} e t l =
        record {
          low = omega (arith, w.low);
          above = below_more (λ j. ok (at rows j) ≡ true → m ≤ tag (at rows j)) i (λ j h o. omega (arith, w.above j h o)) (λ o. omega arith);
          held = inr (record { passed = omega arith; good = e; tagged = sym t; earliest = λ j h o. omega (arith, w.above j h o) });
        }

    -- where row i is ok its tag is not below the bound: it is passed over
    pub walk_pass : (ok (at rows i) ≡ true → bound ≤ tag (at rows i)) → Walk ok tag rows top none (i + 1) place bound
    walk_pass p =
        record {
          low = w.low;
          above = below_more (λ j. ok (at rows j) ≡ true → bound ≤ tag (at rows j)) i w.above p;
          held = ⊎_elim inl (λ (h : Holds ok tag rows i place bound). inr (still h)) w.held;
        }
      where
        still : Holds ok tag rows i place bound → Holds ok tag rows (i + 1) place bound
        still h = record { passed = omega (arith, h.passed); good = h.good; tagged = h.tagged; earliest = h.earliest }

    -- row i is ok only where an earlier row is, whose tag is no larger: its tag is not below the bound
    pub walk_behind : (j : ℕ) → j < i → (ok (at rows i) ≡ true → (ok (at rows j) ≡ true) × (tag (at rows j) ≤ tag (at rows i))) → ok (at rows i) ≡ true → bound ≤ tag (at rows i)
    walk_behind j h b o = omega (arith, w.above j h (b o).0, (b o).1)

  module _ {place bound : ℕ} (size : length rows ≡ none) (w : Walk ok tag rows top none none place bound) where
    -- the end, with a place of a row
    pub walk_found : place < none → Picks ok tag rows (Some place)
    walk_found l = record { pick = least_at ok tag rows place (go w.held); inside = omega arith }
      where
        go : ((place ≡ none) × (bound ≡ top)) ⊎ Holds ok tag rows none place bound → Foremost ok tag rows place
        go (inl e) = absurd (omega arith)
        go (inr h) =
            record {
              inside = omega arith;
              good = h.good;
              smallest = λ j k o. omega (arith, h.tagged, w.above j (omega arith) o);
              earliest = λ j k o. omega (arith, h.tagged, h.earliest j k o);
            }

    -- the end, with no place, where every row that is ok has a tag below the first bound
    pub walk_nothing : none ≤ place → ((j : ℕ) → j < none → ok (at rows j) ≡ true → tag (at rows j) < top) → Picks ok tag rows None
    walk_nothing l small = record { pick = least-none ok tag rows (λ j h. go w.held j (omega arith) (ok (at rows j)) refl); inside = tt }
      where
        go : ((place ≡ none) × (bound ≡ top)) ⊎ Holds ok tag rows none place bound → (j : ℕ) → j < none → (b : Bool) → ok (at rows j) ≡ b → b ≡ false
        go (inr h) j k b o = absurd (omega (arith, h.passed))
        go (inl e) j k false o = refl
        go (inl e) j k true o = absurd (omega (arith, w.above j k o, small j k o))

-- the walk, its place told by where the numbers of that row begin
pub record Told (ok : Request → Bool) (tag : Request → ℕ) (rows : List Request) (top none i from bound : ℕ) : Type 0 where
  pub place : ℕ
  pub begins : from ≡ place * waiting_wide
  pub walk : Walk ok tag rows top none i place bound

module _ {ok : Request → Bool} {tag : Request → ℕ} {rows : List Request} {top none : ℕ} where
  -- before the first row
  pub told-start : Told ok tag rows top none 0 (none * waiting_wide) top
  told-start = record { place = none; begins = refl; walk = walk_start }

  module _ {i from bound : ℕ} (w : Told ok tag rows top none i from bound) where
    -- row i, which begins at b, is taken
    pub told-take : {b m : ℕ} → b ≡ i * waiting_wide → ok (at rows i) ≡ true → tag (at rows i) ≡ m → m < bound → Told ok tag rows top none (i + 1) b m
    told-take e o t l = record { place = i; begins = e; walk = walk_take w.walk o t l }

    -- row i is passed over
    pub told_pass : (ok (at rows i) ≡ true → bound ≤ tag (at rows i)) → Told ok tag rows top none (i + 1) from bound
    told_pass p = record { place = w.place; begins = w.begins; walk = walk_pass w.walk p }

  -- the end
  pub told_picks : {from bound : ℕ} → length rows ≡ none → Told ok tag rows top none none from bound → ((j : ℕ) → j < none → ok (at rows j) ≡ true → tag (at rows j) < top)
      → Picks ok tag rows (place_in from (none * waiting_wide))
  unfolding place_in
  told_picks {from} {bound} size w small = go (ltb from (none * waiting_wide)) refl
    where
      go : (b : Bool) → ltb from (none * waiting_wide) ≡ b → Picks ok tag rows (if b then Some (from / waiting_wide) else None)
      go true e =
          let l : w.place < none = omega (arith, w.begins, ltb-true from (none * waiting_wide) e) in
          let p : from / waiting_wide ≡ w.place = omega (arith, w.begins) in
          rw p (walk_found size w.walk l)
      go false e = walk_nothing size w.walk (omega (arith, w.begins, ltb-false from (none * waiting_wide) e)) small
