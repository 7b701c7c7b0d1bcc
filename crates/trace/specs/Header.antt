-- Document 01, "The trace": "Three letters `SGQ`, 16-bit version (1), depth (8 bits), guests (8), capacity (16): 9 bytes. Per guest:
-- reservation, limit, shares, 32 bits each." "Header order: 9 bytes present (13), 11, 12, counts (1), guest records present (13), guest
-- settings (1)." Document 02, K9: "Both versions must be read. In version 2 the rule is one byte after the capacity (absent: 13, right after 12; judged
-- with the counts), each guest record ends with the credit in 16 bits".
use Rattle.std.specs.Prelude.{ℕ, ◌+◌, ◌*◌, Bool, true, false, not, ◌&&◌, List, [], ◌∷◌, eqb, ltb, length, take, if◌then◌else◌, Result, Ok, Err}
use Rattle.lists.specs.Words.{all}
use Rattle.lists.specs.Tab.{tab}
use Rattle.rules.specs.declared.Settings.{Settings}
use Rattle.rules.specs.Numbers.{within}
use Rattle.rules.specs.Sound.{counted, ruled, settled}
use Rattle.rules.specs.Answers.{number_of}
use Rattle.rules.specs.Refusals.{Test, Verdict, accept, refuse, judged}
use Rattle.rules.specs.declared.Refusal.{Refusal}
use Rattle.rules.specs.declared.Refusal.TheVariants.{BadSetting, BadMark, BadVersion, HeaderCut}
use Rattle.trace.specs.Little.{byte_at, two_at, four_at}
use Rattle.trace.specs.declared.Opened.{Opened}

-- the letters S, G and Q as bytes
abbrev pub mark : List ℕ
mark = 83 ∷ 71 ∷ 81 ∷ []

-- two lists of bytes are the same
unfoldable pub same : List ℕ → List ℕ → Bool
same [] [] = true
same [] (y ∷ ys) = false
same (x ∷ xs) [] = false
same (x ∷ xs) (y ∷ ys) = eqb x y && same xs ys

-- THE VERSIONS, of which a trace has one

-- the first of the versions that there are, by K9: "Both versions must be read."
abbrev pub first_version : ℕ
first_version = 1

-- the last version
abbrev pub last_version : ℕ
last_version = 2

-- a trace of this version says rule, credit and cost
abbrev pub is_two : (version : ℕ) → Bool
is_two v = eqb v 2

-- where the records of n guests end and the events begin, and where the record of guest n does. Version 1: "9 bytes. Per guest: reservation, limit,
-- shares, 32 bits each"; version 2: a byte more for the rule, and two in each record for the credit
unfoldable pub body : (version guests : ℕ) → ℕ
body v n = if is_two v then 10 + 14 * n else 9 + 12 * n

-- WHAT THE BYTES SAY

-- "16-bit version"
abbrev pub version_of : List ℕ → ℕ
version_of bs = two_at bs 3

-- "depth (8 bits)"
abbrev pub depth_of : List ℕ → ℕ
depth_of bs = byte_at bs 5

-- "guests (8)"
abbrev pub guests_of : List ℕ → ℕ
guests_of bs = byte_at bs 6

-- "capacity (16)"
abbrev pub capacity_of : List ℕ → ℕ
capacity_of bs = two_at bs 7

-- the rule for limits, by K9: "In version 2 the rule is one byte after the capacity"; version 1 is rule 1, "from version 1 to 2 (rule 1, credit 0, cost 1)"
unfoldable pub rule_in : (version : ℕ) → List ℕ → ℕ
rule_in v bs = if is_two v then byte_at bs 9 else 1

-- the same by the version that the trace itself has
abbrev pub rule_of : List ℕ → ℕ
rule_of bs = rule_in (version_of bs) bs

-- the credit of the record that begins at a place, by K9: in version 2 "each guest record ends with the credit in 16 bits", in version 1 it is 0
unfoldable pub credit_at : (version : ℕ) → List ℕ → (at : ℕ) → ℕ
credit_at v bs at = if is_two v then two_at bs (at + 12) else 0

-- the settings in the record that begins at a place: "reservation, limit, shares, 32 bits each", and the credit
abbrev pub record_at : (version : ℕ) → List ℕ → (at : ℕ) → Settings
record_at v bs at =
    record { reservation = four_at bs at; limit = four_at bs (at + 4); shares = four_at bs (at + 8); credit = credit_at v bs at }

-- the settings of guest k
abbrev pub settings_at : (version : ℕ) → List ℕ → ℕ → Settings
settings_at v bs k = record_at v bs (body v k)

-- the settings of all guests
abbrev pub settings_in : List ℕ → List Settings
settings_in bs = tab (guests_of bs) (settings_at (version_of bs) bs)

-- THE ORDER

-- "9 bytes present (13), 11, 12, counts (1), guest records present (13), guest settings (1)", and of the rule, by K9, "(absent: 13, right after 12; judged with the
-- counts)", where the versions from one to another are taken
unfoldable pub header_tests_for : (from to : ℕ) → List ℕ → List Test
header_tests_for from to bs =
    record { refusal = HeaderCut; holds = ltb (length bs) 9 }
    ∷ record { refusal = BadMark; holds = not (same (take 3 bs) mark) }
    ∷ record { refusal = BadVersion; holds = not (within from to (version_of bs)) }
    ∷ record { refusal = HeaderCut; holds = ltb (length bs) (body (version_of bs) 0) }
    ∷ record { refusal = BadSetting; holds = not (counted (depth_of bs) (guests_of bs) (capacity_of bs) && ruled (rule_of bs)) }
    ∷ record { refusal = HeaderCut; holds = ltb (length bs) (body (version_of bs) (guests_of bs)) }
    ∷ record { refusal = BadSetting; holds = not (all settled (settings_in bs)) }
    ∷ []

-- the tests of a header that is read
abbrev pub header_tests : List ℕ → List Test
header_tests = header_tests_for first_version last_version

-- a header: what it opens, or why it is refused
abbrev pub Header : Type 0
Header = Result Opened Refusal

-- the paper's number and values of a header: the number of its refusal, or 0 with version, depth, guests, capacity and rule where it opens
abbrev pub header_shown : Header → List ℕ
header_shown (Ok o) = 0 ∷ o.version ∷ o.depth ∷ o.guests ∷ o.capacity ∷ o.rule ∷ []
header_shown (Err r) = number_of r ∷ []

-- what the bytes of a header say that it opens
abbrev pub opened_of : List ℕ → Opened
opened_of bs = record { version = version_of bs; depth = depth_of bs; guests = guests_of bs; capacity = capacity_of bs; rule = rule_of bs }

-- what a verdict on the bytes of a header makes of them
abbrev pub header_by : Verdict → List ℕ → Header
header_by accept bs = Ok (opened_of bs)
header_by (refuse r) bs = Err r

-- the header that stands at the front of a trace, where the versions from one to another are taken
abbrev pub header_for : (from to : ℕ) → List ℕ → Header
header_for from to bs = header_by (judged (header_tests_for from to bs)) bs

-- the header that is read
abbrev pub header_of : List ℕ → Header
header_of = header_for first_version last_version
