-- Document 01, "Refusal numbers" and the printed lines: the paper's number and values for each case of an answer.
use Rattle.std.specs.Prelude.{Bool, true, false, List, [], ◌∷◌, ℕ, Some, None, Option}
use Rattle.rules.specs.declared.Phase.{Phase}
use Rattle.rules.specs.declared.Phase.TheVariants.{Reservation, Weight}
use Rattle.rules.specs.declared.Refusal.{Refusal}
use Rattle.rules.specs.declared.Refusal.TheVariants.{BadSetting, ShortTable, Unsound, UnknownGuest, TimeAboveCeiling, TimeBeforeLast, IdInUse, NoRoom, TagAboveCeiling, NotInFlight, BadMark, BadVersion, HeaderCut, BadEvent, EventCut, AnswersShort, TooManyEvents, BadCost, NoWayBack, BadDelta, RoomShort, NoArray}
use Rattle.rules.specs.declared.Answer.{Answer}
use Rattle.rules.specs.declared.Answer.TheVariants.{Nothing, Sent, Refused}

-- the number of a refusal, from the paper's table
abbrev pub number_of : Refusal → ℕ
number_of BadSetting = 1
number_of ShortTable = 2
number_of Unsound = 3
number_of UnknownGuest = 4
number_of TimeAboveCeiling = 5
number_of TimeBeforeLast = 6
number_of IdInUse = 7
number_of NoRoom = 8
number_of TagAboveCeiling = 9
number_of NotInFlight = 10
number_of BadMark = 11
number_of BadVersion = 12
number_of HeaderCut = 13
number_of BadEvent = 14
number_of EventCut = 15
-- document 02, K5: "16, answer buffer short, before all others; 17, more than 256 events, next"
number_of AnswersShort = 16
number_of TooManyEvents = 17
-- document 02, K8: "a cost outside 1 to 64 is 18"
number_of BadCost = 18
-- document 02, K9: "19, a version 2 trace that has another rule, credit or cost cannot go back; 21, room too short, last"
number_of NoWayBack = 19
number_of RoomShort = 21
-- document 02, K14: "delta outside 1 to 65,535 or rho above delta is 20"
number_of BadDelta = 20
-- K14: "on the host side 1 to 8 arrays, else 22", and "an array not there 22"
number_of NoArray = 22

-- "`R` or `W` (phase)": the letter of a phase, as its byte
abbrev pub letter_of : Phase → ℕ
letter_of Reservation = 82
letter_of Weight = 87

-- what the paper shows of an answer: its letter, and the numbers behind it
pub record Printed : Type 0 where
  pub letter : ℕ
  pub values : List ℕ

-- "`-` (accepted, nothing sent), or `R` or `W` (phase) with guest and id sent, or `X` and the refusal number"
abbrev pub shown : Answer → Printed
shown Nothing = record { letter = 45; values = [] }
shown (Sent p g i) = record { letter = letter_of p; values = g ∷ i ∷ [] }
shown (Refused r) = record { letter = 88; values = number_of r ∷ [] }

-- the answer is no refusal
abbrev pub taken : Answer → Bool
taken Nothing = true
taken (Sent p g i) = true
taken (Refused r) = false

-- what is shown of a time to wake: the time, or no number where there is none
abbrev pub hour : Option ℕ → List ℕ
hour (Some n) = n ∷ []
hour None = []
