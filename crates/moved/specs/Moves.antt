-- Document 02, K9, the moves: "Both moves take a lent trace and lent room for the result, work on well-formed traces only, and write nothing when refused;
-- room past the result is unchanged. Refusals: header faults, a trace of the wrong version being 12, then the first event with 14 or 15; 19, a version 2
-- trace that has another rule, credit or cost cannot go back; 21, room too short, last". Words in quotes are K9's.
use Rattle.std.specs.Prelude.{ℕ, zero, suc, ◌+◌, ◌%◌, Bool, true, false, not, ◌&&◌, List, [], ◌∷◌, ◌++◌, eqb, ltb, length, if◌then◌else◌, Option, Some, None, Result, Ok, Err}
use Rattle.std.specs.declared.num.NonZeroU64.{NonZeroU64}
use Rattle.std.proofs.lemmas.List.Edits.{sets}
use Rattle.std.proofs.Math.Nat.{zero-lt-suc}
use Rattle.lists.specs.Words.{all}
use Rattle.rules.specs.Answers.{number_of}
use Rattle.rules.specs.declared.Settings.{Settings}
use Rattle.rules.specs.declared.Event.TheVariants.{Arrival, Completion, Tick}
use Rattle.rules.specs.declared.Refusal.{Refusal}
use Rattle.rules.specs.declared.Refusal.TheVariants.{BadEvent, EventCut, NoWayBack, RoomShort}
use Rattle.rules.specs.Refusals.{Test, Verdict, accept, refuse, judged}
use Rattle.trace.specs.Header.{version_of, rule_of, settings_in, header_tests_for}
use Rattle.trace.specs.Event.{whole, Read}
use Rattle.trace.specs.Answers.{by_event, event_bytes, reads_of}
use Rattle.moved.specs.Result.{moved_to}
use Rattle.moved.specs.declared.Stopped.{Stopped}

-- THE EVENTS

-- an event was read as bad: 14
abbrev pub is_bad : Read → Bool
is_bad = by_event true (λ e. false)

-- an arrival of another cost than 1, which version 1 cannot say
abbrev pub is_dear : Read → Bool
is_dear (Some (Arrival a t)) = not (eqb a.cost 1)
is_dear (Some (Completion f t)) = false
is_dear (Some (Tick t)) = false
is_dear None = false

-- the number of the first event of which f tells, where n events stand before; 0 where there is none
unfoldable pub first_that : (Read → Bool) → (n : ℕ) → List Read → ℕ
first_that f n [] = 0
first_that f n (r ∷ rs) = if f r then n + 1 else first_that f (n + 1) rs

-- the number that was found, or where none was, this one, if it is here
abbrev pub sooner : (found : ℕ) (here : Bool) (number : ℕ) → ℕ
sooner found here number = if ltb 0 found then found else if here then number else 0

-- the whole events of a trace, as they are read
abbrev pub reads_in : List ℕ → List Read
reads_in bs = reads_of (version_of bs) (event_bytes bs)

-- the number of the first bad event
abbrev pub bad_in : List ℕ → ℕ
bad_in bs = first_that is_bad 0 (reads_in bs)

-- the number of the first arrival of another cost than 1
abbrev pub dear_in : List ℕ → ℕ
dear_in bs = first_that is_dear 0 (reads_in bs)

-- how many bytes of a cut last event there are
abbrev pub cut_in : List ℕ → ℕ
cut_in bs = length (event_bytes bs) % 14

-- WHAT VERSION 1 CAN SAY

-- a guest has no credit
abbrev pub creditless : Settings → Bool
creditless s = eqb s.credit 0

-- the rule is 1 and every credit 0
abbrev pub plainly_set : List ℕ → Bool
plainly_set bs = eqb (rule_of bs) 1 && all creditless (settings_in bs)

-- and every cost 1
abbrev pub plain : List ℕ → Bool
plain bs = plainly_set bs && eqb (dear_in bs) 0

-- THE ORDER

-- behind a good header: "the first event with 14 or 15; 19, .. another rule, credit or cost .. 21, room too short, last"
unfoldable pub body_tests : (to : ℕ) → List ℕ → (room : ℕ) → List Test
body_tests to bs room =
    record { refusal = BadEvent; holds = ltb 0 (bad_in bs) }
    ∷ record { refusal = EventCut; holds = ltb 0 (cut_in bs) }
    ∷ record { refusal = NoWayBack; holds = not (plain bs) }
    ∷ record { refusal = RoomShort; holds = ltb room (length (moved_to to bs)) }
    ∷ []

-- "header faults, a trace of the wrong version being 12, then" these
abbrev pub move_tests : (from to : ℕ) → List ℕ → (room : ℕ) → List Test
move_tests from to bs room = header_tests_for from from bs ++ body_tests to bs room

-- the number of the event that refused the move: of 14, of 15, and of 19 for a cost; else 0
abbrev pub event_in : List ℕ → Refusal → ℕ
event_in bs r =
    if eqb (number_of r) 14 then bad_in bs
    else if eqb (number_of r) 15 then whole (event_bytes bs) + 1
    else if eqb (number_of r) 19 then if plainly_set bs then dear_in bs else 0
    else 0

-- THE MOVE

-- the answer of a move: how many bytes are written, or why it is refused
abbrev pub Moved : Type 0
Moved = Result ℕ Stopped

-- the number of an event, 0 of none
abbrev pub event_number : Option NonZeroU64 → ℕ
event_number None = 0
event_number (Some k) = k.value

-- and the event of a number, none of 0
abbrev pub event_at : ℕ → Option NonZeroU64
event_at zero = None
event_at (suc n) = Some (record { value = suc n; ok = zero-lt-suc n })

-- the paper's number and values of an answer: its refusal or 0, the bytes written, 0 when refused, and the number of the event that refused it
abbrev pub moved_shown : Moved → List ℕ
moved_shown (Ok n) = 0 ∷ n ∷ 0 ∷ []
moved_shown (Err s) = number_of s.why ∷ 0 ∷ event_number s.event ∷ []

-- a refusal that no event gave
abbrev pub refused_by : Refusal → Stopped
refused_by r = record { why = r; event = None }

-- the last test, by the bytes that the header and the events of the result need
abbrev pub room_for : (head events room : ℕ) → Moved
room_for head events room = if ltb room (head + events) then Err (refused_by RoomShort) else Ok (head + events)

-- the answer by a verdict
abbrev pub answer_by : Verdict → (to : ℕ) → List ℕ → Moved
answer_by accept to bs = Ok (length (moved_to to bs))
answer_by (refuse r) to bs = Err (record { why = r; event = event_at (event_in bs r) })

-- the room by a verdict: "write nothing when refused; room past the result is unchanged"
abbrev pub room_by : Verdict → (to : ℕ) → (bs room : List ℕ) → List ℕ
room_by accept to bs room = sets room 0 (moved_to to bs)
room_by (refuse r) to bs room = room

-- the answer of a move
abbrev pub answer_to : (from to : ℕ) → List ℕ → (room : ℕ) → Moved
answer_to from to bs room = answer_by (judged (move_tests from to bs room)) to bs

-- the answer as it is shown, and the room: what a move promises
abbrev pub moves : (from to : ℕ) → (bs room : List ℕ) → List ℕ × List ℕ
moves from to bs room =
    (moved_shown (answer_to from to bs (length room)), room_by (judged (move_tests from to bs (length room))) to bs room)
