-- Each number of a salvage is given exactly where its condition holds and none before it does. Assumes nothing.
use Prim.Native.Nat.{ℕ, ◌<◌}
use mathlib.Core.Path.{◌≡◌, refl}
use mathlib.Core.List.{List}
use lib.ListN.{length}
use Rattle.rules.specs.Refusals.{Verdict, accept, refuse, judged}
use Rattle.rules.specs.Refused.{RefusedExactly}
use Rattle.rules.proofs.Judged.{Tested, end, ◌and◌}
use Rattle.rules.proofs.Conditions.{less, either_means}
use Rattle.rules.proofs.Refused.{exactly, Numbers, number_tells}
use Rattle.trace.specs.Header.{first_version, last_version}
use Rattle.trace.proofs.HeaderExactly.{header_tested}
use Rattle.moved.proofs.Exactly.{behind, refusal_in}
use Rattle.salvage.specs.Result.{salvaged, list_of}
use Rattle.salvage.specs.Salvages.{room_tests, salvage_tests, salvaged_shown, answer_by, salvages}
use Rattle.salvage.specs.Cases.{room_cases, salvage_cases}

-- each test holds where the condition of its case does
pub salvage_tested : (bs : List ℕ) (room list : ℕ) → Tested (salvage_tests bs room list) (salvage_cases bs room list)
unfolding room_tests room_cases
salvage_tested bs room list =
    behind (header_tested first_version last_version bs)
    (either_means (less room (length (salvaged bs))).holds (less list (length (list_of bs))).holds
    and end)

-- the number is the verdict's
salvage_number : (v : Verdict) (bs : List ℕ) → Numbers v (refusal_in (salvaged_shown (answer_by v bs)))
salvage_number accept bs = refl
salvage_number (refuse r) bs = refl

-- a refusal number is given exactly where its condition holds and none before it does; a salvage is accepted exactly where none holds
pub salvage_exactly : (bs room list : List ℕ)
    → RefusedExactly (salvage_cases bs (length room) (length list)) (λ n. (0 < n) × (refusal_in (salvages bs room list).0 ≡ n)) (refusal_in (salvages bs room list).0 ≡ 0)
salvage_exactly bs room list =
    let v : Verdict = judged (salvage_tests bs (length room) (length list)) in
    exactly (salvage_tested bs (length room) (length list)) (number_tells v _ (salvage_number v bs))
