-- When a tick alone would send something, described without computing it: document 02, K2, as facts about ticks. Words in quotes are K2's.
use Rattle.std.specs.Prelude.{◌≡◌, true, ℕ, ◌≤◌, ◌<◌, Some, None, Option}
use Rattle.rules.specs.Numbers.{ceiling}
use Rattle.rules.specs.Tables.{Table}
use Rattle.rules.specs.declared.Event.TheVariants.{Tick}
use Rattle.rules.specs.Refusals.{accepted}
use Rattle.rules.specs.Run.{step}
use Rattle.rules.specs.declared.Phase.{Phase}
use Rattle.rules.specs.declared.Answer.{Answer}
use Rattle.rules.specs.declared.Answer.TheVariants.{Nothing, Sent}

-- the answer sends a request, whichever and by whichever phase
pub record Sends (a : Answer) : Type 0 where
  pub phase : Phase
  pub guest : ℕ
  pub id : ℕ
  pub sent : a ≡ Sent phase guest id

-- n is "the earliest time, now or later, at which a tick alone would send something" at the table t
pub record WakesAt (t : Table) (n : ℕ) : Type 0 where
  pub later : t.time ≤ n
  pub at_most : n ≤ ceiling
  pub taken : accepted t (Tick n) ≡ true
  pub sends : Sends (step t (Tick n)).answer
  pub before : (m : ℕ) → t.time ≤ m → m < n → (accepted t (Tick m) ≡ true) × ((step t (Tick m)).answer ≡ Nothing)

-- w is when to wake the gate at the table t; none is that no tick sends, at any time
abbrev pub Wakes : Table → Option ℕ → Type 0
Wakes t (Some n) = WakesAt t n
Wakes t None = (m : ℕ) → Sends (step t (Tick m)).answer → ⊥
