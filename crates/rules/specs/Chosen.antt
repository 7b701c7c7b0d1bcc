-- What the choice is, described without computing it: document 01, "The choice", as facts about places; and what each phase asks, under both rules for
-- limits.
use Rattle.std.specs.Prelude.{◌≡◌, Bool, true, false, List, ℕ, ◌≤◌, ◌<◌, length, get_or}
use Rattle.lists.specs.Tab.{remove_at}
use Rattle.rules.specs.Tables.{Request, Table, reserved, limited, settings_of}
use Rattle.rules.specs.Choice.{Result, due, open?, sending, dropped}
use Rattle.rules.specs.declared.Phase.TheVariants.{Reservation, Weight}
use Rattle.rules.specs.declared.Answer.TheVariants.{Nothing, Sent}

-- the request that stands where there is none
abbrev pub blank : Request
blank = record { guest = 0; id = 0; rtag = 0; ltag = 0; stag = 0; cost = 0 }

-- the request at place i, places counted from 0 in order of acceptance
abbrev pub at : List Request → ℕ → Request
at w i = get_or w i blank

-- what the weight phase asks of a request: "unlimited or .. a limit tag at or before t"
abbrev pub Open : Table → Request → Type 0
Open t q = limited (settings_of t.guests q) ≡ true → q.ltag ≤ t.time

-- what the reservation phase asks: "a reservation tag at or before t", and by document 02, K7, "Under rule 2 the reservation phase also wants the request unlimited or its limit
-- tag at or before t."
pub record Due (t : Table) (q : Request) : Type 0 where
  pub has_tag : reserved (settings_of t.guests q) ≡ true
  pub at_or_before : q.rtag ≤ t.time
  pub by_rule_2 : t.setup.rule ≡ 2 → Open t q

-- of the requests that are ok, place i has the one with the smallest tag, and no earlier one has a tag as small
pub record Foremost (ok : Request → Bool) (tag : Request → ℕ) (w : List Request) (i : ℕ) : Type 0 where
  pub inside : i < length w
  pub good : ok (at w i) ≡ true
  pub smallest : (j : ℕ) → j < length w → ok (at w j) ≡ true → tag (at w i) ≤ tag (at w j)
  pub earliest : (j : ℕ) → j < i → ok (at w j) ≡ true → tag (at w i) < tag (at w j)

-- none of the requests is ok
abbrev pub NoneIs : (Request → Bool) → List Request → Type 0
NoneIs ok w = (j : ℕ) → j < length w → ok (at w j) ≡ false

-- nothing is sent and nothing changes
abbrev pub unsent : Table → Result
unsent t = record { table = t; answer = Nothing }

-- the request at place i is sent by reservation
abbrev pub sent_by_reservation_at : Table → ℕ → Result
sent_by_reservation_at t i =
    record {
      table = sending t (at t.waiting i) (remove_at i t.waiting);
      answer = Sent Reservation (at t.waiting i).guest (at t.waiting i).id;
    }

-- the request at place i is sent by weight, and its guest's reservation tags drop
abbrev pub sent_by_weight_at : Table → ℕ → Result
sent_by_weight_at t i =
    record {
      table = dropped (at t.waiting i) (sending t (at t.waiting i) (remove_at i t.waiting));
      answer = Sent Weight (at t.waiting i).guest (at t.waiting i).id;
    }

-- r is what the choice at the table t must be: one of four cases, each with what holds then
pub data Chosen (t : Table) (r : Result) : Type 0 where
  full : t.setup.depth ≤ length t.flight → r ≡ unsent t → Chosen t r
  reservation : (i : ℕ) → length t.flight < t.setup.depth → Foremost (due t) Request.rtag t.waiting i → r ≡ sent_by_reservation_at t i → Chosen t r
  weight : (i : ℕ) → length t.flight < t.setup.depth → NoneIs (due t) t.waiting → Foremost (open? t) Request.stag t.waiting i → r ≡ sent_by_weight_at t i → Chosen t r
  nothing : length t.flight < t.setup.depth → NoneIs (due t) t.waiting → NoneIs (open? t) t.waiting → r ≡ unsent t → Chosen t r
