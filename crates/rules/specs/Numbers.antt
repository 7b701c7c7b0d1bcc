-- Document 01, "Numbers": the ceiling, the spacings, the tag that a next number and the time give, and the bound of an idle guest's next
-- number. The ranges of settings are in Sound.antt, with the rule "settings lie in the ranges".
use Rattle.std.specs.Prelude.{Bool, ◌&&◌, ℕ, ◌+◌, ◌-◌, ◌*◌, ◌/◌, max, leb}

-- "Time and tags are whole nanoseconds, 0 to 4,611,686,018,427,387,903 (2^62 − 1, the ceiling)."
abbrev pub ceiling : ℕ
ceiling = 4611686018427387903

-- a second in nanoseconds: the 1,000,000,000 of the spacings and of the bound
abbrev pub second : ℕ
second = 1000000000

-- document 02, K6: "a credit c from 0 to 256"
abbrev pub most_credit : ℕ
most_credit = 256

-- document 02, K8: "a cost from 1 to 64"
abbrev pub most_cost : ℕ
most_cost = 64

-- document 02, K14: "both stop at 65,535"
abbrev pub most_delta : ℕ
most_delta = 65535

-- n lies from a to b, both included
abbrev pub within : ℕ → ℕ → ℕ → Bool
within a b n = leb a n && leb n b

-- "reservation 1,000,000,000 / r rounded down", "shares 1,000,000,000 / w rounded down"; 0 where n is 0, as here a quotient by 0 is 0
unfoldable pub down : ℕ → ℕ
down n = second / n

-- "limit 1,000,000,000 / l rounded up"; 0 where n is 0 likewise
unfoldable pub up : ℕ → ℕ
up n = (second + n - 1) / n

-- "Each tag it has is the larger of the next number and t."
abbrev pub tag_at : ℕ → ℕ → ℕ
tag_at now next = max next now

-- document 02, K14: a next number "raised by (delta − 1) spacings", or "by (rho − 1) spacings, so for rho 0 it falls by one, never below 0": a difference of these
-- numbers is 0 where it would be below 0
abbrev pub raised_by : (count spacing next : ℕ) → ℕ
raised_by count spacing next = next + count * spacing - spacing

-- document 02, K8: "an idle guest's next number is at most the ceiling plus 64,000,000,000"
abbrev pub idle_bound : ℕ
idle_bound = ceiling + most_cost * second
