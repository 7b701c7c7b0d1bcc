-- What the functions of an event promise: a refusal and every number as it was, or the table that the event enters, written over the numbers; and beside the waiting
-- rows their index.
use Rattle.std.specs.Prelude.{ℕ, ◌≡◌, List, Err, Ok, Result}
use Rattle.rules.specs.Events.{enter}
use Rattle.rules.specs.Refusals.{accept, refuse, verdict}
use Rattle.rules.specs.declared.Event.{Event}
use Rattle.rules.specs.declared.Gate.{Gate}
use Rattle.table.specs.View.{table_of, Known}
use Rattle.table.specs.Does.{written}
use Rattle.index.specs.Index.{Beside}
use Rattle.rules.specs.declared.Refusal.{Refusal}

-- the event e is accepted, and the numbers now show the table that it enters, and are known
pub record EntersAt (e : Event) (g : Gate) (gs ws fs : List ℕ) (h : Gate) (hs vs es : List ℕ) : Type 0 where
  pub accepts : verdict (table_of g gs ws fs) e ≡ accept
  pub shows : (h, hs, vs, es) ≡ written gs ws fs (enter (table_of g gs ws fs) e)
  pub known : Known h hs vs es

-- what an event e comes to, where the numbers gs, ws, fs became hs, vs, es
abbrev pub Enters : Event → Gate → (gs ws fs : List ℕ) → Result Gate Refusal → (hs vs es : List ℕ) → Type 0
Enters e g gs ws fs (Err r) hs vs es = (verdict (table_of g gs ws fs) e ≡ refuse r) × (hs ≡ gs) × (vs ≡ ws) × (es ≡ fs)
Enters e g gs ws fs (Ok h) hs vs es = EntersAt e g gs ws fs h hs vs es

-- and ix stands beside the rows vs that it leaves
abbrev pub EntersBeside : Gate → Result Gate Refusal → (vs ix : List ℕ) → Type 0
EntersBeside g (Err r) vs ix = Beside vs ix g.waiting
EntersBeside g (Ok h) vs ix = Beside vs ix h.waiting
