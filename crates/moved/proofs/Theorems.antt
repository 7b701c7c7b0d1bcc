-- THE MOVES: there and back gives the same bytes; a well-formed trace of version 1 goes up; the printed decisions stay; each answer and room is one only, and
-- room past the result is unchanged. Assumes nothing.
use Prim.Native.Nat.{ℕ, ◌+◌, ◌*◌, ◌≤◌, ◌<◌}
use mathlib.Core.Path.{◌≡◌, refl, sym, ap, ◌∙◌, subst}
use mathlib.Core.List.{List, [], ◌∷◌, ◌++◌}
use native.Mathlib.Omega.{arith}
use lib.ListN.{length, get_or, drop}
use lib.Seq.{sets, sets-eq, length-sets, drop-append_seam}
use Rattle.rules.specs.Refusals.{Verdict, accept, refuse, judged}
use Rattle.rules.specs.Run.{fresh}
use Rattle.rules.specs.declared.Answer.{Answer}
use Rattle.rules.proofs.Judged.{number_of_once, number_of_some}
use Rattle.lines.specs.Line.{title_line}
use Rattle.trace.specs.Header.{first_version, last_version, depth_of, capacity_of}
use Rattle.trace.specs.Event.{whole}
use Rattle.trace.specs.Printed.{answers_to, lines_from, printed}
use Rattle.trace.specs.Answers.{opening, cut_answer, answers_of}
use Rattle.trace.proofs.Answers.{printed-lines}
use Rattle.moved.specs.Result.{moved_to}
use Rattle.moved.specs.Moves.{move_tests, Moved, event_number, moved_shown, answer_by, room_by, moves}
use Rattle.std.specs.Prelude.{Option, Some, None, Ok, Err}
use Rattle.std.specs.declared.num.NonZeroU64.{NonZeroU64}
use Rattle.std.proofs.Math.Bridge.{le_prop}
use Rattle.moved.proofs.Bytes.{rule_there, same-events}
use Rattle.moved.proofs.Movable.{Movable, movable, roomy, header_good, accepts, settings-there, reads_there, moved_movable, moved_back}

-- A MOVE THAT IS ACCEPTED

-- what it leaves
pub accepted-leaves : (from to : ℕ) (bs room : List ℕ) → judged (move_tests from to bs (length room)) ≡ accept
    → moves from to bs room ≡ (0 ∷ length (moved_to to bs) ∷ 0 ∷ [], sets room 0 (moved_to to bs))
accepted-leaves from to bs room e = ap (λ (v : Verdict). (moved_shown (answer_by v to bs), room_by v to bs room)) e

-- THERE AND BACK: a trace that was moved is accepted back, given room for it, and its bytes are those of the trace
pub there_and_back : (from to : ℕ) → from < 256 → (bs : List ℕ) (room : ℕ) → judged (move_tests from to bs room) ≡ accept → (again : List ℕ) → length bs ≤ length again
    → moves to from (moved_to to bs) again ≡ (0 ∷ length bs ∷ 0 ∷ [], sets again 0 bs)
there_and_back from to known bs room e again enough =
    let m = movable from to bs room e in
    let back = moved_back from to bs m known in
    accepted-leaves to from (moved_to to bs) again (accepts to from (moved_to to bs) (length again) (moved_movable from to bs m) (omega (arith, ap length back)))
    ∙ (λ i. (0 ∷ length (back i) ∷ 0 ∷ [], sets again 0 (back i)))

-- up and then back
pub up-back : (bs : List ℕ) (room : ℕ) → judged (move_tests 1 2 bs room) ≡ accept → (again : List ℕ) → length bs ≤ length again
    → moves 2 1 (moved_to 2 bs) again ≡ (0 ∷ length bs ∷ 0 ∷ [], sets again 0 bs)
up-back = there_and_back 1 2 (omega arith)

-- back and then up
pub back-up : (bs : List ℕ) (room : ℕ) → judged (move_tests 2 1 bs room) ≡ accept → (again : List ℕ) → length bs ≤ length again
    → moves 1 2 (moved_to 1 bs) again ≡ (0 ∷ length bs ∷ 0 ∷ [], sets again 0 bs)
back-up = there_and_back 2 1 (omega arith)

-- THE PRINTED DECISIONS of a moved trace are those of the trace
module _ (v w : ℕ) (bs : List ℕ) (m : Movable v bs) where
  opening-there : opening (moved_to w bs) ≡ opening bs
  unfolding moved_to
  opening-there = λ i. fresh (depth_of bs) (capacity_of bs) ((rule_there w bs m.fits ∙ sym m.rule) i) (settings-there v w bs m i)

  answers-there : answers_of (moved_to w bs) ≡ answers_of bs
  answers-there =
      λ i. answers_to (opening-there i) (reads_there v w bs m i)
      ++ cut_answer (drop (whole (same-events w bs m.fits i) * 14) (same-events w bs m.fits i))

  pub printed-there : first_version ≤ v → v ≤ last_version → first_version ≤ w → w ≤ last_version → printed (moved_to w bs) ≡ printed bs
  printed-there a b c d =
      printed-lines (moved_to w bs) (header_good first_version last_version w (moved_to w bs) c d (moved_movable v w bs m))
      ∙ ap (λ (l : List Answer). title_line ++ lines_from 0 l) answers-there
      ∙ sym (printed-lines bs (header_good first_version last_version v bs a b m))

-- of a trace that goes up, and of one that goes back
pub up-printed : (bs : List ℕ) (room : ℕ) → judged (move_tests 1 2 bs room) ≡ accept → printed (moved_to 2 bs) ≡ printed bs
up-printed bs room e = printed-there 1 2 bs (movable 1 2 bs room e) (omega arith) (omega arith) (omega arith) (omega arith)

pub back-printed : (bs : List ℕ) (room : ℕ) → judged (move_tests 2 1 bs room) ≡ accept → printed (moved_to 1 bs) ≡ printed bs
back-printed bs room e = printed-there 2 1 bs (movable 2 1 bs room e) (omega arith) (omega arith) (omega arith) (omega arith)

-- ONCE: two answers that are shown alike are equal, so a move admits one answer and one room
at : ℕ → List ℕ → ℕ
at n l = get_or l n 0

-- an event is known by its number
same_event : (j k : NonZeroU64) → j.value ≡ k.value → j ≡ k
same_event j k e =
    let P : ℕ → Type 0 = λ n. (p : 0 < n) → ◌≡◌ {A = NonZeroU64} j (record { value = n; ok = p }) in
    subst P e (λ p. ap (λ (q : 0 < j.value). record { value = j.value; ok = q }) (le_prop j.ok p)) k.ok

event_once : (a b : Option NonZeroU64) → event_number a ≡ event_number b → a ≡ b
event_once None None e = refl
event_once None (Some k) e = absurd (omega (arith, k.ok))
event_once (Some j) None e = absurd (omega (arith, j.ok))
event_once (Some j) (Some k) e = ap Some (same_event j k e)

pub moved-shown_once : (a b : Moved) → moved_shown a ≡ moved_shown b → a ≡ b
unfolding at
moved-shown_once (Ok n) (Ok m) h = ap Ok (ap (at 1) h)
moved-shown_once (Ok n) (Err s) h = absurd (number_of_some s.why (sym (ap (at 0) h)))
moved-shown_once (Err r) (Ok m) h = absurd (number_of_some r.why (ap (at 0) h))
moved-shown_once (Err r) (Err s) h = λ i. Err (record { why = number_of_once r.why s.why (ap (at 0) h) i; event = event_once r.event s.event (ap (at 2) h) i })

pub once : (from to : ℕ) (bs room : List ℕ) (a b : Moved) (xs ys : List ℕ) → (moved_shown a, xs) ≡ moves from to bs room → (moved_shown b, ys) ≡ moves from to bs room
    → (a ≡ b) × (xs ≡ ys)
once from to bs room a b xs ys p q =
    let e = p ∙ sym q in
    (moved-shown_once a b (ap (λ (x : List ℕ × List ℕ). x.0) e), ap (λ (x : List ℕ × List ℕ). x.1) e)

-- UNTOUCHED: the room is as long as before; the bytes written are the result, and those behind them are as they were; nothing is written when refused
abbrev pub written_in : List ℕ × List ℕ → ℕ
written_in x = get_or x.0 1 0

pub untouched : (from to : ℕ) (bs room : List ℕ)
    → (length (moves from to bs room).1 ≡ length room) × (drop (written_in (moves from to bs room)) (moves from to bs room).1 ≡ drop (written_in (moves from to bs room)) room)
untouched from to bs room = go (judged (move_tests from to bs (length room))) refl
  where
    left : Verdict → List ℕ × List ℕ
    left v = (moved_shown (answer_by v to bs), room_by v to bs room)

    go : (v : Verdict) → judged (move_tests from to bs (length room)) ≡ v
        → (length (left v).1 ≡ length room) × (drop (written_in (left v)) (left v).1 ≡ drop (written_in (left v)) room)
    go accept e =
        let xs = moved_to to bs in
        let enough = roomy from to bs (length room) e in
        (length-sets room 0 xs, ap (drop (length xs)) (sets-eq xs room 0 (omega arith)) ∙ drop-append_seam xs (drop (0 + length xs) room) ∙ (let z : 0 + length xs ≡ length xs = omega arith in ap (λ (k : ℕ). drop k room) z))
    go (refuse r) e = (refl, refl)
