-- What each answer about a guest's own rows says of the waiting requests. Assumes nothing.
use Rattle.std.specs.Prelude.{◌≡◌, refl, Bool, true, false, List, map, if◌then◌else◌}
use Rattle.lists.specs.Words.{empty}
use Rattle.rules.specs.Tables.{Request, mine, name, lacks}
use Rattle.rules.specs.declared.Flight.{Flight}
use Rattle.walks.specs.Survey.{own_of}
use Rattle.walks.specs.declared.survey.Own.{Own}
use Rattle.walks.specs.declared.survey.Own.TheVariants.{Repeated, Waits, Idle}

-- what an answer says
abbrev pub Says : Own → Flight → List Request → Type 0
Says Repeated f w = lacks f (map name w) ≡ false
Says Waits f w = (lacks f (map name w) ≡ true) × (empty (mine f.guest w) ≡ false)
Says Idle f w = (lacks f (map name w) ≡ true) × (empty (mine f.guest w) ≡ true)

-- and it is so
pub own_says : (f : Flight) (w : List Request) → Says (own_of f w) f w
unfolding own_of
own_says f w = go (lacks f (map name w)) refl (empty (mine f.guest w)) refl
  where
    go : (a : Bool) → lacks f (map name w) ≡ a → (b : Bool) → empty (mine f.guest w) ≡ b → Says (if a then (if b then Idle else Waits) else Repeated) f w
    go true e true h = (e, h)
    go true e false h = (e, h)
    go false e b h = e
