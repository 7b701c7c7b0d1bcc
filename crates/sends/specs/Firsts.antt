-- What a send by weight asks of a request: that it is the first waiting of its guest.
use Rattle.std.specs.Prelude.{◌≡◌, List, ◌∷◌, ℕ}
use Rattle.lists.specs.Tab.{remove_at}
use Rattle.rules.specs.Tables.{Request, mine}
use Rattle.rules.specs.Chosen.{at}

-- the request at place i is the first of its guest: in front of all others it leaves the requests of every guest in their order
abbrev pub FirstOf : List Request → (i : ℕ) → Type 0
FirstOf w i = (g : ℕ) → mine g w ≡ mine g (at w i ∷ remove_at i w)
