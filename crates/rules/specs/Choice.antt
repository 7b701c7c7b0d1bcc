-- Document 01, "The choice": "If in flight equals depth, nothing is sent. Otherwise at most one", by reservation, else by weight, else nothing.
use Rattle.std.specs.Prelude.{Bool, true, not, ◌&&◌, ◌||◌, List, [], ◌∷◌, ◌++◌, map, ℕ, ◌+◌, ◌-◌, ltb, leb, eqb, length, set, if◌then◌else◌}
use Rattle.rules.specs.Tables.{Settings, Guest, Request, Table, reserved, limited, rspacing, owner, settings_of, of, mine, name}
use Rattle.rules.specs.declared.Phase.TheVariants.{Reservation, Weight}
use Rattle.rules.specs.declared.Answer.{Answer}
use Rattle.rules.specs.declared.Answer.TheVariants.{Nothing, Sent}

-- the table after a choice or an event, and the answer
pub record Result : Type 0 where
  pub table : Table
  pub answer : Answer

-- a request picked from a list, and the others in their order
pub data Pick : Type 0 where
  nobody : Pick
  picked : Request → List Request → Pick

-- a pick from the list behind q, as a pick from the list with q: q is among the others
abbrev pub behind : Request → Pick → Pick
behind q nobody = nobody
behind q (picked p v) = picked p (q ∷ v)

-- q in front of the list w, against the pick from w: the smaller tag wins, "ties to the earlier accepted", which is q
abbrev pub against : (Request → ℕ) → Request → List Request → Pick → Pick
against tag q w nobody = picked q w
against tag q w (picked p v) = if leb (tag q) (tag p) then picked q w else picked p (q ∷ v)

-- of the requests that are ok, "the one with the smallest" tag, "ties to the earlier accepted"; and the others
abbrev pub least : (ok : Request → Bool) (tag : Request → ℕ) → List Request → Pick
least ok tag [] = nobody
least ok tag (q ∷ w) = if ok q then against tag q w (least ok tag w) else behind q (least ok tag w)

-- "the waiting requests with a reservation tag at or before t"; "Equal counts as due."
unfoldable pub due_at : Settings → (now : ℕ) → Request → Bool
due_at s now q = reserved s && leb q.rtag now

-- "those that are unlimited or have a limit tag at or before t"
unfoldable pub open_at : Settings → (now : ℕ) → Request → Bool
open_at s now q = not (limited s) || leb q.ltag now

-- what else the reservation phase asks of a request. Rule 1, document 01: nothing, "The limit is not looked at." Rule 2, document 02, K7: "Under rule 2
-- the reservation phase also wants the request unlimited or its limit tag at or before t."
unfoldable pub passes_at : (rule : ℕ) → Settings → (now : ℕ) → Request → Bool
passes_at rule s now q = if eqb rule 2 then open_at s now q else true

-- the same, under the rule of the table, at its time
abbrev pub passes : Table → Request → Bool
passes t q = passes_at t.setup.rule (settings_of t.guests q) t.time q

-- what the reservation phase chooses from
abbrev pub due : Table → Request → Bool
due t q = due_at (settings_of t.guests q) t.time q && passes t q

-- what the weight phase chooses from
abbrev pub open? : Table → Request → Bool
open? t q = open_at (settings_of t.guests q) t.time q

-- "when one is sent, the requests behind it move down one place. Requests in flight stand in order of sending": q goes, w stays waiting
unfoldable pub sending : Table → Request → List Request → Table
sending t q w = record { setup = t.setup; time = t.time; guests = t.guests; waiting = w; flight = t.flight ++ (name q ∷ []) }

-- the request q with its reservation tag dropped by d, document 02, K14: "but never below 0", as a difference of these numbers is 0 where it would be
unfoldable pub earlier : ℕ → Request → Request
earlier d q = record { guest = q.guest; id = q.id; rtag = q.rtag - d; ltag = q.ltag; stag = q.stag; cost = q.cost }

-- where a guest with these settings drops by d, of which the requests l wait, not dropped yet, its next reservation number n, by document 02, K14, "is set to the
-- last waiting tag plus its cost times the spacing, or, with none waiting, drops alike": the tag as dropped
abbrev pub resumed : Settings → (d : ℕ) → List Request → (n : ℕ) → ℕ
resumed s d [] n = n - d
resumed s d (q ∷ []) n = q.rtag - d + rspacing s q
resumed s d (q ∷ p ∷ l) n = resumed s d (p ∷ l) n

-- the guest h with the next reservation number n
unfoldable pub renewed : ℕ → Guest → Guest
renewed n h = record { settings = h.settings; rnext = n; lnext = h.lnext; snext = h.snext }

-- how far that guest's tags drop after q was sent by weight, document 02, K8: "by the sent request's cost times the spacing"; 0 where it has no reservation
abbrev pub drop_of : Table → Request → ℕ
drop_of t q = rspacing (settings_of t.guests q) q

-- the next reservation number of the guest of q, where q was sent by weight
abbrev pub next_of : Table → Request → ℕ
next_of t q = resumed (settings_of t.guests q) (drop_of t q) (mine q.guest t.waiting) (owner t.guests q.guest).rnext

-- "every reservation tag still waiting of that guest, and its next reservation number, drops", where q was sent, by K14's rule for the number
unfoldable pub dropped : Request → Table → Table
dropped q t =
    record {
      setup = t.setup;
      time = t.time;
      guests = set t.guests q.guest (renewed (next_of t q) (owner t.guests q.guest));
      waiting = map (λ p. if of q.guest p then earlier (drop_of t q) p else p) t.waiting;
      flight = t.flight;
    }

-- what follows from the weight phase's pick: the send and the drop; "Else nothing"
unfoldable pub by_weight : Table → Pick → Result
by_weight t nobody = record { table = t; answer = Nothing }
by_weight t (picked q w) = record { table = dropped q (sending t q w); answer = Sent Weight q.guest q.id }

-- what follows from the reservation phase's pick: the send; "Else weight phase"
unfoldable pub by_reservation : Table → Pick → Result
by_reservation t nobody = by_weight t (least (open? t) Request.stag t.waiting)
by_reservation t (picked q w) = record { table = sending t q w; answer = Sent Reservation q.guest q.id }

-- a place is free at the array
unfoldable pub room : Table → Bool
room t = ltb (length t.flight) t.setup.depth

-- "If in flight equals depth, nothing is sent. Otherwise at most one"
unfoldable pub choice : Table → Result
choice t = if room t then by_reservation t (least (due t) Request.rtag t.waiting) else record { table = t; answer = Nothing }
