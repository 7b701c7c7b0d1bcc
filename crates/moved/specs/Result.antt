-- Document 02, K9: "Provide the move from version 1 to 2 (rule 1, credit 0, cost 1) and back." What a trace becomes: its bytes in the other version.
use Rattle.std.specs.Prelude.{ℕ, zero, suc, ◌+◌, List, [], ◌∷◌, ◌++◌, take, drop, if◌then◌else◌}
use Rattle.trace.specs.Little.{byte_at}
use Rattle.trace.specs.Header.{mark, is_two, body, version_of, guests_of}
use Rattle.trace.specs.Answers.{event_bytes}

-- the byte of the rule: rule 1 in version 2, none in version 1
abbrev pub rule_bytes : (version : ℕ) → List ℕ
rule_bytes v = if is_two v then 1 ∷ [] else []

-- the bytes of a credit: credit 0 in version 2, none in version 1
abbrev pub credit_bytes : (version : ℕ) → List ℕ
credit_bytes v = if is_two v then 0 ∷ 0 ∷ [] else []

-- the header in version w: the mark, the version, then depth, guests and capacity as they stand, and the rule
abbrev pub head_to : (w : ℕ) → List ℕ → List ℕ
head_to w bs = mark ++ (w ∷ 0 ∷ byte_at bs 5 ∷ byte_at bs 6 ∷ byte_at bs 7 ∷ byte_at bs 8 ∷ rule_bytes w)

-- the record in version w of the guest whose record begins at a place: reservation, limit and shares as they stand, and the credit
abbrev pub record_to : (w : ℕ) → List ℕ → (at : ℕ) → List ℕ
record_to w bs at = take 12 (drop at bs) ++ credit_bytes w

-- the records in version w of m guests of a trace of version v, from guest k on
unfoldable pub records_to : (w v : ℕ) → List ℕ → (k m : ℕ) → List ℕ
records_to w v bs k zero = []
records_to w v bs k (suc m) = record_to w bs (body v k) ++ records_to w v bs (k + 1) m

-- THE TRACE IN VERSION w. An arrival of cost 1 has zeros in the upper part of its first byte, as completions and ticks have, so the bytes of the events stay
unfoldable pub moved_to : (w : ℕ) → List ℕ → List ℕ
moved_to w bs = head_to w bs ++ (records_to w (version_of bs) bs 0 (guests_of bs) ++ event_bytes bs)
