-- A test that every name in a table passes, passes after an event has entered too: it brings only the name that arrives. Assumes nothing.
use Prim.Native.Nat.{ℕ}
use mathlib.Core.Path.{◌≡◌, refl, ap, ◌∙◌}
use mathlib.Core.Bool.{Bool, true}
use mathlib.Core.List.{[], ◌∷◌, ◌++◌, map}
use Rattle.lists.specs.Words.{all, without}
use Rattle.lists.specs.WordsLaws.{join, all_append, all_parts, all_without, map-append}
use Rattle.rules.specs.Tables.{Request, Table, idle, name, same, names}
use Rattle.rules.specs.declared.Flight.{Flight}
use Rattle.rules.specs.Events.{called_by, adjusted, stamped, stamped_for, placed, arrive_as, arrive, complete, wait, enter}
use Rattle.rules.specs.declared.Event.{Event}
use Rattle.rules.specs.declared.Event.TheVariants.{Arrival, Completion, Tick}
use Rattle.rules.proofs.ArriveSound.{adjusted-names}

module _ (f : Flight → Bool) where
  -- a request with a name that passes is placed
  placed-all : (now : ℕ) (q : Request) (t : Table) → f (name q) ≡ true → all f (names t) ≡ true → all f (names (placed now q t)) ≡ true
  unfolding placed
  placed-all now q t e h =
      let c = all_parts f (map name t.waiting) t.flight h in
      let w : all f (map name (t.waiting ++ (q ∷ []))) ≡ true = rw (map-append name t.waiting (q ∷ [])) (all_append f (map name t.waiting) (name q ∷ []) c.0 (join e refl)) in
      all_append f (map name (t.waiting ++ (q ∷ []))) t.flight w c.1

  -- the name that an event brings passes, if it brings one
  abbrev pub Brings : Event → Type 0
  Brings (Arrival a now) = f (called_by a) ≡ true
  Brings (Completion g now) = Unit {0}
  Brings (Tick now) = Unit {0}

  -- what enters with an event
  pub enter-all : (t : Table) (e : Event) → Brings e → all f (names t) ≡ true → all f (names (enter t e)) ≡ true
  unfolding enter arrive arrive_as stamped complete wait
  enter-all t (Arrival a now) b h =
      let i = idle t a.guest in
      placed-all now (stamped_for i now a t) (adjusted i now t) b (ap (all f) (adjusted-names t now i) ∙ h)
  enter-all t (Completion g now) b h =
      let c = all_parts f (map name t.waiting) t.flight h in
      all_append f (map name t.waiting) (without (same g) t.flight) c.0 (all_without f (same g) t.flight c.1)
  enter-all t (Tick now) b h = h
