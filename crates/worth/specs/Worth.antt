-- Document 02, K11, "What a limit is worth", as a statement about a run of events and its answers. Words in quotes are K11's.
use Rattle.std.specs.Prelude.{◌≡◌, Bool, true, false, ◌&&◌, List, [], ◌∷◌, ℕ, ◌≤◌, ◌+◌, ◌-◌, ◌*◌, leb, eqb}
use Rattle.lists.specs.Words.{filter}
use Rattle.rules.specs.Tables.{Table, limited, lplain, owner}
use Rattle.rules.specs.declared.Settings.{Settings}
use Rattle.rules.specs.declared.Phase.{Phase}
use Rattle.rules.specs.declared.Phase.TheVariants.{Reservation, Weight}
use Rattle.rules.specs.declared.Event.{Event}
use Rattle.rules.specs.declared.Answer.{Answer}
use Rattle.worth.specs.Passages.{Passage, passages}

-- "Of its requests accepted at or after a", those sent "by b"
abbrev pub between : (g a b : ℕ) → List Passage → List Passage
between g a b l = filter (λ p. eqb p.guest g && leb a p.came && leb p.went b) l

-- the phase is the weight phase
abbrev pub is_weight : Phase → Bool
is_weight Reservation = false
is_weight Weight = true

-- those "sent by weight"
abbrev pub by_weight : List Passage → List Passage
by_weight l = filter (λ p. is_weight p.phase) l

-- "the summed cost of all but the last of them"
abbrev pub cost_but_last : List Passage → ℕ
cost_but_last [] = 0
cost_but_last (p ∷ []) = 0
cost_but_last (p ∷ q ∷ l) = p.cost + cost_but_last (q ∷ l)

-- the settings of guest g
abbrev pub settings_at : Table → ℕ → Settings
settings_at t g = (owner t.guests g).settings

-- what these passages take of guest g's limit: "the summed cost of all but the last of them, times the limit spacing"
abbrev pub takes : Table → (g : ℕ) → List Passage → ℕ
takes t g l = cost_but_last l * lplain (settings_at t g)

-- WHAT A LIMIT IS WORTH, in a run of these events from the table t that is answered so
pub record Worth (t : Table) (es : List Event) (rs : List Answer) : Type 0 where
  -- "For a limited guest, take any moment a and a later moment b. Of its requests accepted at or after a, consider those sent by weight by b"; the
  -- time of the table "is at or before a"
  pub weighed : (g a b : ℕ) → limited (settings_at t g) ≡ true → t.time ≤ a → a ≤ b → takes t g (by_weight (between g a b (passages es rs))) ≤ b - a
  -- "Under rule 2 it holds for all sends."
  pub by_rule_2 : t.setup.rule ≡ 2 → (g a b : ℕ) → limited (settings_at t g) ≡ true → t.time ≤ a → a ≤ b → takes t g (between g a b (passages es rs)) ≤ b - a
