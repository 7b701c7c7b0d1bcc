-- What is shown of a header and of an event is that header and that event alone, so the promises of `read_header` and `read_event`, which are
-- stated by what is shown, admit one answer only. Assumes nothing.
use Prim.Native.Nat.{ℕ}
use mathlib.Core.Path.{◌≡◌, refl, ap}
use mathlib.Core.List.{List}
use native.Mathlib.Omega.{arith}
use lib.ListN.{length, get_or}
use Rattle.rules.proofs.Judged.{number_of_once}
use Rattle.trace.specs.Header.{header_shown, Header}
use Rattle.trace.specs.Event.{read_shown, Read}
use Rattle.rules.specs.declared.Event.TheVariants.{Arrival, Completion, Tick}
use Rattle.std.specs.Prelude.{Some, None, Ok, Err}

-- the number that is shown at place n
at : ℕ → List ℕ → ℕ
at n l = get_or l n 0

-- two headers that are shown alike are equal
pub header_shown_once : (a b : Header) → header_shown a ≡ header_shown b → a ≡ b
unfolding at
header_shown_once (Ok o) (Ok p) h = λ i. Ok (record { version = ap (at 1) h i; depth = ap (at 2) h i; guests = ap (at 3) h i; capacity = ap (at 4) h i; rule = ap (at 5) h i })
header_shown_once (Ok o) (Err s) h = absurd (omega (arith, ap length h))
header_shown_once (Err r) (Ok p) h = absurd (omega (arith, ap length h))
header_shown_once (Err r) (Err s) h = ap Err (number_of_once r s (ap (at 0) h))

-- two events that are shown alike are equal
pub read-shown_once : (a b : Read) → read_shown a ≡ read_shown b → a ≡ b
unfolding at
read-shown_once (Some (Arrival x t)) (Some (Arrival y u)) h = λ n. Some (Arrival (record { guest = ap (at 1) h n; id = ap (at 2) h n; cost = ap (at 4) h n; delta = ap (at 5) h n; rho = ap (at 6) h n }) (ap (at 3) h n))
read-shown_once (Some (Arrival x t)) (Some (Completion y u)) h = absurd (omega (arith, ap (at 0) h))
read-shown_once (Some (Arrival x t)) (Some (Tick u)) h = absurd (omega (arith, ap (at 0) h))
read-shown_once (Some (Arrival x t)) None h = absurd (omega (arith, ap (at 0) h))
read-shown_once (Some (Completion x t)) (Some (Arrival y u)) h = absurd (omega (arith, ap (at 0) h))
read-shown_once (Some (Completion x t)) (Some (Completion y u)) h = λ n. Some (Completion (record { guest = ap (at 1) h n; id = ap (at 2) h n }) (ap (at 3) h n))
read-shown_once (Some (Completion x t)) (Some (Tick u)) h = absurd (omega (arith, ap (at 0) h))
read-shown_once (Some (Completion x t)) None h = absurd (omega (arith, ap (at 0) h))
read-shown_once (Some (Tick t)) (Some (Arrival y u)) h = absurd (omega (arith, ap (at 0) h))
read-shown_once (Some (Tick t)) (Some (Completion y u)) h = absurd (omega (arith, ap (at 0) h))
read-shown_once (Some (Tick t)) (Some (Tick u)) h = ap (λ (n : ℕ). Some (Tick n)) (ap (at 3) h)
read-shown_once (Some (Tick t)) None h = absurd (omega (arith, ap (at 0) h))
read-shown_once None (Some (Arrival y u)) h = absurd (omega (arith, ap (at 0) h))
read-shown_once None (Some (Completion y u)) h = absurd (omega (arith, ap (at 0) h))
read-shown_once None (Some (Tick u)) h = absurd (omega (arith, ap (at 0) h))
read-shown_once None None h = refl
