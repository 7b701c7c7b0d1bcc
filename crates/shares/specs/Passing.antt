-- Refusal 9, by the numbers: "a tag given, or a share tag moved, would pass the ceiling". Assumes nothing.
use Rattle.std.specs.Prelude.{ℕ, ◌+◌, ◌-◌, ◌≤◌, max, ◌≡◌, Bool, ◌&&◌, leb}
use Rattle.std.proofs.Math.Path.{refl, ap}
use Rattle.std.proofs.Common.{sym, ap₂, ◌∙◌, arith, leb-true, leb-false, le-leb}
use Rattle.std.proofs.Math.Bool.{true, false, not, and-true}
use mathlib.Core.List.{List, [], ◌∷◌, map}
use Rattle.std.proofs.lemmas.Bool.{lt-leb}
use Rattle.lists.specs.Words.{all, lowest}
use Rattle.lists.specs.WordsLaws.{both}
use Rattle.rules.specs.Numbers.{ceiling}
use Rattle.rules.specs.Tables.{Request, Table, reserved, limited, owner}
use Rattle.rules.specs.Sound.{lawful}
use Rattle.rules.specs.Events.{smallest, shifted, adjusted, tag_if, share_tag, stamped, raised}
use Rattle.rules.specs.declared.Arriving.{Arriving}
use Rattle.rules.specs.Refusals.{passing}
use Rattle.walks.specs.Survey.{highest}
use Rattle.table.specs.Stamp.{lawful_tags, moves_fit}

-- two numbers fit where the larger does
both_fit : (a b now m : ℕ) → leb (a + now - m) ceiling && leb (b + now - m) ceiling ≡ leb (max a b + now - m) ceiling
both_fit a b now m = go (leb (a + now - m) ceiling) refl (leb (b + now - m) ceiling) refl
  where
    go : (x : Bool) → leb (a + now - m) ceiling ≡ x → (y : Bool) → leb (b + now - m) ceiling ≡ y → leb (a + now - m) ceiling && leb (b + now - m) ceiling ≡ leb (max a b + now - m) ceiling
    go true e true f =
        rw (e, f) (sym (le-leb (max a b + now - m) ceiling (omega (arith, leb-true (a + now - m) ceiling e, leb-true (b + now - m) ceiling f))))
    go true e false f = rw (e, f) (sym (lt-leb (max a b + now - m) ceiling (omega (arith, leb-false (b + now - m) ceiling f))))
    go false e y f = rw e (sym (lt-leb (max a b + now - m) ceiling (omega (arith, leb-false (a + now - m) ceiling e))))

-- a lawful request whose share tag moves
shifted-lawful : (now m : ℕ) (q : Request) → lawful q ≡ true → lawful (shifted now m q) ≡ leb (q.stag + now - m) ceiling
unfolding lawful shifted
shifted-lawful now m q h = rw (both (leb q.rtag ceiling && leb q.ltag ceiling) (leb q.stag ceiling) h).0

-- the moved tags fit where the largest does
moved_all : (now m : ℕ) (q : Request) (w : List Request) → all lawful (q ∷ w) ≡ true → all lawful (map (shifted now m) (q ∷ w)) ≡ leb (highest (map Request.stag (q ∷ w)) + now - m) ceiling
unfolding highest
moved_all now m q [] h =
    let e : max q.stag 0 ≡ q.stag = omega arith in
    and-true (lawful (shifted now m q)) ∙ shifted-lawful now m q (both (lawful q) true h).0 ∙ ap (λ (x : ℕ). leb (x + now - m) ceiling) (sym e)
moved_all now m q (p ∷ w) h =
    let c = both (lawful q) (all lawful (p ∷ w)) h in
    ap₂ ◌&&◌ (shifted-lawful now m q c.0) (moved_all now m p w c.1) ∙ both_fit q.stag (highest (map Request.stag (p ∷ w))) now m

module _ (now : ℕ) (t : Table) (timely : now ≤ ceiling) (fit : all lawful t.waiting ≡ true) where
  -- what waits after the settling; where nothing waits, the ends are 0 and the time is judged alone
  pub settled-lawful : (idle : Bool) → all lawful (adjusted idle now t).waiting ≡ moves_fit idle now (smallest t) (highest (map Request.stag t.waiting))
  unfolding adjusted
  settled-lawful false = fit
  settled-lawful true = go t.waiting fit
    where
      none : lowest [] ≡ 0
      none = unfold lowest in refl

      none-high : highest [] ≡ 0
      none-high = unfold highest in refl

      go : (w : List Request) → all lawful w ≡ true → all lawful (map (shifted now (lowest (map Request.stag w))) w) ≡ leb (highest (map Request.stag w) + now - lowest (map Request.stag w)) ceiling
      go [] h = rw (none, none-high) (sym (le-leb (0 + now - 0) ceiling (omega arith)))
      go (q ∷ w) h = moved_all now (lowest (map Request.stag (q ∷ w))) q w h

  -- refusal 9, of the ends of the share tags that wait, and the tags that the arriving request gets
  pub passing_is : (idle : Bool) (a : Arriving) →
      let h = raised a (owner t.guests a.guest) in
      passing idle now a t
      ≡ not
      (moves_fit idle now (smallest t) (highest (map Request.stag t.waiting))
      && lawful_tags (tag_if (reserved h.settings) now h.rnext) (tag_if (limited h.settings) now h.lnext) (share_tag idle now h))
  unfolding stamped lawful
  passing_is idle a = ap (λ (b : Bool). not (b && lawful (stamped idle now a (raised a (owner t.guests a.guest))))) (settled-lawful idle)

-- THE ENDS of lawful requests: the sums above stay within 64 bits

-- the smallest is at most the largest
pub lowest-highest : (l : List ℕ) → lowest l ≤ highest l
unfolding lowest highest
lowest-highest [] = omega arith
lowest-highest (x ∷ []) = omega arith
lowest-highest (x ∷ y ∷ l) = omega arith

-- the largest is at most the ceiling
pub highest-fits : (w : List Request) → all lawful w ≡ true → highest (map Request.stag w) ≤ ceiling
unfolding highest lawful
highest-fits [] h = omega arith
highest-fits (q ∷ w) h =
    let c = both (lawful q) (all lawful w) h in
    let s = leb-true q.stag ceiling (both (leb q.rtag ceiling && leb q.ltag ceiling) (leb q.stag ceiling) c.0).1 in
    omega (arith, highest-fits w c.1)
