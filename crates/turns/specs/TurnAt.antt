-- Demand 3 by places: which places stand before a place by reservation tag, how many they are, and the answers that send them in their turn, under
-- each of the rules for limits. Places are those of the waiting requests, counted from 0 in order of acceptance. Words in quotes are demand 3's.
use Rattle.std.specs.Prelude.{◌≡◌, Bool, true, ◌&&◌, ◌||◌, List, ℕ, zero, suc, ◌≤◌, ◌<◌, ltb, eqb, length, get_or, if◌then◌else◌}
use Rattle.rules.specs.Tables.{Table}
use Rattle.rules.specs.Chosen.{at, Open}
use Rattle.turns.specs.Turn.{tagged, sent_by_reservation}
use Rattle.rules.specs.declared.Answer.{Answer}
use Rattle.rules.specs.declared.Answer.TheVariants.{Nothing}

-- how many of the numbers below n pass
abbrev pub how_many : ℕ → (ℕ → Bool) → ℕ
how_many zero f = 0
how_many (suc n) f = if f 0 then suc (how_many n (λ j. f (suc j))) else how_many n (λ j. f (suc j))

-- the reservation tag of the request at place i
abbrev pub rtag_at : Table → ℕ → ℕ
rtag_at t i = (at t.waiting i).rtag

-- a tag p at place j stands before a tag q at place i: "by reservation tag, equal tags by order of acceptance"
abbrev pub earlier_tag : (p j q i : ℕ) → Bool
earlier_tag p j q i = ltb p q || (eqb p q && ltb j i)

-- the request at place j stands before the one at place i; "requests of guests without a reservation have no such tag"
abbrev pub before : Table → (i j : ℕ) → Bool
before t i j = tagged t (at t.waiting j) && earlier_tag (rtag_at t j) j (rtag_at t i) i

-- "Let k be how many waiting requests stand before it"
abbrev pub turn_of : Table → ℕ → ℕ
turn_of t i = how_many (length t.waiting) (before t i)

-- place i has "a waiting request whose reservation tag is at or before that time"
pub record DueAt (t : Table) (i : ℕ) : Type 0 where
  pub waits : i < length t.waiting
  pub has_tag : tagged t (at t.waiting i) ≡ true
  pub at_or_before : rtag_at t i ≤ t.time

-- RULE 1: the answers "send exactly those k first, then this request at the (k+1)th, each by reservation", as far as there are answers
pub record InTurnAt (t : Table) (i : ℕ) (got : List Answer) : Type 0 where
  -- each of "those k" goes, before the one at place i: after just those that stand before it
  pub each_goes : (j : ℕ) → j < length t.waiting → before t i j ≡ true
      → (turn_of t j < turn_of t i) × (turn_of t j < length got → get_or got (turn_of t j) Nothing ≡ sent_by_reservation (at t.waiting j))
  -- "exactly those k first": so each of the first k answers is the turn of one of them
  pub those_first : (n : ℕ) → n < turn_of t i → (j : ℕ) × (j < length t.waiting) × (before t i j ≡ true) × (turn_of t j ≡ n)
  -- "then this request at the (k+1)th"
  pub then_this : turn_of t i < length got → get_or got (turn_of t i) Nothing ≡ sent_by_reservation (at t.waiting i)

-- RULE 2, document 02, K7: the request at place i "is sent at the (k+1)th such event at the latest, no send before it being by weight", as far as there are answers
pub record ByTurnAt (t : Table) (i : ℕ) (got : List Answer) : Type 0 where
  -- how many answers come before the one that sends it
  pub turn : ℕ
  -- K7: "at the (k+1)th such event at the latest"; "k counts every waiting request whose reservation tag stands before it, its limit due or not"
  pub at-latest : turn ≤ turn_of t i
  -- K7: "no send before it being by weight": each sends a request that stands before it, by reservation
  pub none_by_weight : (n : ℕ) → n < turn → n < length got
      → (j : ℕ) × (j < length t.waiting) × (before t i j ≡ true) × (get_or got n Nothing ≡ sent_by_reservation (at t.waiting j))
  -- then this request
  pub then_this : turn < length got → get_or got turn Nothing ≡ sent_by_reservation (at t.waiting i)

-- demand 3 for the request at place i, under the rule of the table. K7: "In demand 3 under rule 2, the request must meet that too", to be unlimited or its
-- limit tag at or before the time
pub record TurnKept (t : Table) (i : ℕ) (got : List Answer) : Type 0 where
  pub rule_1 : t.setup.rule ≡ 1 → DueAt t i → InTurnAt t i got
  pub rule_2 : t.setup.rule ≡ 2 → DueAt t i → Open t (at t.waiting i) → ByTurnAt t i got
