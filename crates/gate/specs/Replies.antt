-- What a call answers, as five numbers: kind, guest, id, refusal and wake. What an answer does not have is 0.
use Rattle.std.specs.Prelude.{ℕ, Some, None, Option}
use Rattle.rules.specs.Answers.{number_of}
use Rattle.rules.specs.declared.Phase.{Phase}
use Rattle.rules.specs.declared.Phase.TheVariants.{Reservation, Weight}
use Rattle.rules.specs.declared.Answer.{Answer}
use Rattle.rules.specs.declared.Answer.TheVariants.{Nothing, Sent, Refused}
use Rattle.gate.specs.declared.Reply.{Reply}

-- the kind of a send: 1 by reservation, 2 by weight
abbrev pub kind_of : Phase → ℕ
kind_of Reservation = 1
kind_of Weight = 2

-- four numbers: kind, guest, id, refusal
abbrev pub Four : Type 0
Four = ℕ × ℕ × ℕ × ℕ

-- an answer as four numbers: kind (0 nothing, 1 sent by reservation, 2 by weight, 3 refused), guest, id, and the paper's number of a refusal
abbrev pub four_of : Answer → Four
four_of Nothing = (0, 0, 0, 0)
four_of (Sent p g i) = (kind_of p, g, i, 0)
four_of (Refused r) = (3, 0, 0, number_of r)

-- where there is no time to wake: all bits one
abbrev pub never : ℕ
never = 18446744073709551615

-- a time to wake as the fifth number
abbrev pub fifth_of : Option ℕ → ℕ
fifth_of (Some n) = n
fifth_of None = never

-- an answer and a time to wake as five numbers
abbrev pub reply_of : Answer → Option ℕ → Reply
reply_of a w = record { kind = (four_of a).0; guest = (four_of a).1; id = (four_of a).2; refusal = (four_of a).3; wake = fifth_of w }

-- the first four of the five
abbrev pub four : Reply → Four
four r = (r.kind, r.guest, r.id, r.refusal)
