-- Document 01, "The trace": "A bad header prints the one line `trace refused` and the number. Otherwise the header line `event answer`, then
-- a line for each event: its number from 1, then" the answer. "Fields are parted by one space, numbers are decimal without leading zeros,
-- and every line ends with byte 10."
use Rattle.std.specs.Prelude.{ℕ, zero, suc, ◌+◌, ◌/◌, ◌%◌, List, [], ◌∷◌, ◌++◌, ltb, if◌then◌else◌}
use Rattle.rules.specs.Answers.{number_of, shown}
use Rattle.rules.specs.declared.Refusal.{Refusal}
use Rattle.rules.specs.declared.Answer.{Answer}

-- the digits of n as bytes, f + 1 of them at the most: below ten it is one digit, else those of n / 10 and then the last
unfoldable pub decimal_in : ℕ → ℕ → List ℕ
decimal_in zero n = (48 + n) ∷ []
decimal_in (suc f) n = if ltb n 10 then (48 + n) ∷ [] else decimal_in f (n / 10) ++ ((48 + n % 10) ∷ [])

-- "decimal without leading zeros": all digits of n, as no number has more than n + 1
abbrev pub decimal_of : ℕ → List ℕ
decimal_of n = decimal_in n n

-- "Fields are parted by one space": each number after a space
abbrev pub spaced : List ℕ → List ℕ
spaced [] = []
spaced (v ∷ vs) = 32 ∷ (decimal_of v ++ spaced vs)

-- an answer as it is printed: its letter, then its numbers, each after a space
abbrev pub answer_of : Answer → List ℕ
answer_of a = (shown a).letter ∷ spaced (shown a).values

-- the line of an event: "its number from 1, then" the answer
unfoldable pub line_of : ℕ → Answer → List ℕ
line_of number a = decimal_of number ++ (32 ∷ (answer_of a ++ (10 ∷ [])))

-- the bytes of `trace refused`
abbrev pub trace_refused : List ℕ
trace_refused = 116 ∷ 114 ∷ 97 ∷ 99 ∷ 101 ∷ 32 ∷ 114 ∷ 101 ∷ 102 ∷ 117 ∷ 115 ∷ 101 ∷ 100 ∷ []

-- the line `trace refused` with number n
abbrev pub refused_with : ℕ → List ℕ
refused_with n = trace_refused ++ (spaced (n ∷ []) ++ (10 ∷ []))

-- "the one line `trace refused` and the number"
unfoldable pub refusal_line : Refusal → List ℕ
refusal_line r = refused_with (number_of r)

-- "the header line `event answer`"
abbrev pub title_line : List ℕ
title_line = 101 ∷ 118 ∷ 101 ∷ 110 ∷ 116 ∷ 32 ∷ 97 ∷ 110 ∷ 115 ∷ 119 ∷ 101 ∷ 114 ∷ 10 ∷ []

-- the most bytes of a line: three numbers of twenty digits, three spaces, a letter, byte 10
abbrev pub LINE : ℕ
LINE = 65
