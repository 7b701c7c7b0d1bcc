-- A test that every name in a table passes, passes after the choice too. Assumes nothing.
use mathlib.Core.Path.{◌≡◌, refl, ap, ◌∙◌, subst}
use mathlib.Core.Bool.{Bool, true}
use mathlib.Core.List.{List, [], ◌∷◌, ◌++◌, map}
use Rattle.lists.specs.Words.{all}
use Rattle.lists.specs.WordsLaws.{join, all_append, all_parts, all_mid, map-append}
use Rattle.rules.specs.Tables.{Request, Flight, Table, name, names}
use Rattle.rules.specs.Choice.{Pick, due, open?, sending, choice}
use Rattle.rules.proofs.Picks.{Between, Split, splits}
use Rattle.rules.proofs.Cases.{choice_by}
use Rattle.rules.proofs.Drops.{dropped-names}

module _ (f : Flight → Bool) where
  -- one goes from the middle of the waiting to the end of flight
  sending-all : (t : Table) (p : Request) (v : List Request) → Between p v t.waiting → all f (names t) ≡ true → all f (names (sending t p v)) ≡ true
  unfolding sending
  sending-all t p v b h =
      let c = all_parts f (map name t.waiting) t.flight h in
      let w : all f (map name b.before ++ name p ∷ map name b.after) ≡ true = rw (b.stood, map-append name b.before (p ∷ b.after)) at c.0 in
      let m = all_mid f (map name b.before) (name p) (map name b.after) w in
      let stay : all f (map name v) ≡ true = rw (b.stay, map-append name b.before b.after) m.1 in
      all_append f (map name v) (t.flight ++ (name p ∷ [])) stay (all_append f t.flight (name p ∷ []) c.1 (join m.0 refl))

  -- the choice moves names only from the waiting to flight
  pub choice-all : (t : Table) → all f (names t) ≡ true → all f (names (choice t).table) ≡ true
  choice-all t h =
      choice_by (λ r. all f (names r.table) ≡ true) t h
      (λ p v m e. sending-all t p v (subst (λ (k : Pick). Split k t.waiting) e (splits (due t) Request.rtag t.waiting)) h)
      (λ p v m n e. ap (all f) (dropped-names p (sending t p v)) ∙ sending-all t p v (subst (λ (k : Pick). Split k t.waiting) e (splits (open? t) Request.stag t.waiting)) h)
