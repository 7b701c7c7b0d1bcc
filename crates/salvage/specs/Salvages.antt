-- Document 02, K12, the call: "Room past the results is unchanged. Refusals: header faults keep numbers 11, 12, 13 and 1; then 21, lent room for trace or list too
-- short, nothing written." Words in quotes are K12's.
use Rattle.std.specs.Prelude.{ℕ, ◌||◌, List, [], ◌∷◌, ◌++◌, ltb, length, Ok, Err, Result}
use Rattle.std.proofs.lemmas.List.Edits.{sets}
use Rattle.rules.specs.Answers.{number_of}
use Rattle.rules.specs.Refusals.{Test, Verdict, accept, refuse, judged}
use Rattle.rules.specs.declared.Refusal.{Refusal}
use Rattle.rules.specs.declared.Refusal.TheVariants.{RoomShort}
use Rattle.trace.specs.Header.{header_tests}
use Rattle.salvage.specs.Result.{salvaged, rows_in, list_of}
use Rattle.salvage.specs.declared.Written.{Written}

-- THE ORDER

-- behind a good header: "21, lent room for trace or list too short"
unfoldable pub room_tests : List ℕ → (room list : ℕ) → List Test
room_tests bs room list = record { refusal = RoomShort; holds = ltb room (length (salvaged bs)) || ltb list (length (list_of bs)) } ∷ []

-- "header faults keep numbers 11, 12, 13 and 1; then" this
abbrev pub salvage_tests : List ℕ → (room list : ℕ) → List Test
salvage_tests bs room list = header_tests bs ++ room_tests bs room list

-- THE CALL

-- the answer of a salvage: how many bytes and rows are written, or why it is refused
abbrev pub Salvaged : Type 0
Salvaged = Result Written Refusal

-- the paper's number and values of an answer: its refusal or 0, the bytes written and the rows written, 0 when refused
abbrev pub salvaged_shown : Salvaged → List ℕ
salvaged_shown (Ok w) = 0 ∷ w.bytes ∷ w.rows ∷ []
salvaged_shown (Err r) = number_of r ∷ 0 ∷ 0 ∷ []

-- the answer by a verdict
abbrev pub answer_by : Verdict → List ℕ → Salvaged
answer_by accept bs = Ok (record { bytes = length (salvaged bs); rows = length (rows_in bs) })
answer_by (refuse r) bs = Err r

-- the room by a verdict: "nothing written", "Room past the results is unchanged."
abbrev pub room_by : Verdict → (bs room : List ℕ) → List ℕ
room_by accept bs room = sets room 0 (salvaged bs)
room_by (refuse r) bs room = room

-- and the list
abbrev pub list_by : Verdict → (bs list : List ℕ) → List ℕ
list_by accept bs list = sets list 0 (list_of bs)
list_by (refuse r) bs list = list

-- the answer as it is shown, the room and the list, by a verdict
abbrev pub leaves_by : Verdict → (bs room list : List ℕ) → List ℕ × List ℕ × List ℕ
leaves_by v bs room list = (salvaged_shown (answer_by v bs), room_by v bs room, list_by v bs list)

-- WHAT A SALVAGE PROMISES
abbrev pub salvages : (bs room list : List ℕ) → List ℕ × List ℕ × List ℕ
salvages bs room list = leaves_by (judged (salvage_tests bs (length room) (length list))) bs room list
