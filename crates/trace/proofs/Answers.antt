-- What is printed of a trace with a good header is the header line and a line for each answer, the cut last event's too; and the answers from
-- event k on are those to its bytes at the table that it finds. Assumes nothing.
use Prim.Native.Nat.{ℕ, zero, suc, ◌+◌, ◌*◌, ◌-◌, ◌≤◌, ◌<◌}
use mathlib.Core.Path.{◌≡◌, refl, sym, ap, ◌∙◌}
use mathlib.Core.Bool.{Bool, true, false}
use mathlib.Core.List.{List, [], ◌∷◌, ◌++◌, append_assoc, append-nil}
use mathlib.Core.Logic.{◌↔◌}
use native.Mathlib.Omega.{arith}
use native.Mathlib.Nat.{add-zero}
use lib.Dec.{ltb}
use lib.ListN.{length, get_or, drop, length-append, length-drop}
use lib.Seq.{drop_at, drop-drop, get_or-append-add}
use borrow.Author.Tests.{ltb-true, ltb-false}
use Rattle.lists.specs.Words.{if◌then◌else◌}
use Rattle.rules.specs.Tables.{Table}
use Rattle.rules.specs.Refusals.{Verdict, accept, judged}
use Rattle.rules.specs.declared.Refusal.TheVariants.{EventCut}
use Rattle.rules.specs.declared.Answer.{Answer}
use Rattle.rules.specs.declared.Answer.TheVariants.{Nothing, Refused}
use Rattle.lines.specs.Line.{line_of, title_line}
use Rattle.trace.specs.Header.{version_of, header_tests, header_by}
use Rattle.trace.specs.Event.{event_of, events_of, whole, Read}
use Rattle.trace.specs.Printed.{answered, answers_to, table_after, lines_from, Place, events, lines, left, cut, finished, printed_by, printed}
use Rattle.trace.specs.Answers.{event_bytes, opening, reads_of, cut_answer, answers_from, answers_of}
use Rattle.trace.proofs.EventLaws.{events_add, length-events}
use Rattle.trace.proofs.RunLaws.{answers-append, length-answers, lines-append}

-- THE LINES

-- the line of a cut last event is that of its answer
cut_line_lem : (n : ℕ) (bs : List ℕ) → cut n bs ≡ lines_from n (cut_answer bs)
unfolding cut lines_from
cut_line_lem n [] = refl
cut_line_lem n (b ∷ bs) = sym (append-nil (line_of (n + 1) (Refused EventCut)))

length_reads : (v : ℕ) (t : Table) (bs : List ℕ) → length (answers_to t (reads_of v bs)) ≡ whole bs
length_reads v t bs = length-answers t (reads_of v bs) ∙ length-events v (whole bs) bs

-- the lines of all events are those of their answers
finished-lines : (p : Place) → finished p ≡ lines_from p.number (answers_from p.version p.table p.bytes)
unfolding finished lines left
finished-lines p =
    let rest = drop (whole p.bytes * 14) p.bytes in
    let got = answers_to p.table (events p) in
    ap (λ (l : List ℕ). lines_from p.number got ++ l)
    (cut_line_lem (p.number + whole p.bytes) rest ∙ ap (λ (n : ℕ). lines_from (p.number + n) (cut_answer rest)) (sym (length_reads p.version p.table p.bytes)))
    ∙ sym (lines-append p.number got (cut_answer rest))

-- "Otherwise the header line `event answer`, then a line for each event"
pub printed-lines : (bs : List ℕ) → judged (header_tests bs) ≡ accept → printed bs ≡ title_line ++ lines_from 0 (answers_of bs)
unfolding printed
printed-lines bs e =
    ap (λ (v : Verdict). printed_by (header_by v bs) bs) e
    ∙ ap (λ (l : List ℕ). title_line ++ l) (finished-lines (record { version = version_of bs; bytes = event_bytes bs; table = opening bs; number = 0 }))

-- FROM EVENT k ON

module _ (v : ℕ) (t : Table) (bs : List ℕ) (k : ℕ) (fits : k ≤ whole bs) where
  abbrev rest : List ℕ
  rest = drop (k * 14) bs

  count : whole bs ≡ k + whole rest
  count = let l : length rest ≡ length bs - k * 14 = length-drop (k * 14) bs in omega arith

  cut-rest : drop (whole bs * 14) bs ≡ drop (whole rest * 14) rest
  cut-rest =
      let n : whole bs * 14 ≡ k * 14 + whole rest * 14 = omega (arith, count) in
      ap (λ (i : ℕ). drop i bs) n ∙ sym (drop-drop (whole rest * 14) (k * 14) bs)

  -- the answers to k events, and those from there on
  pub answers_split : answers_from v t bs ≡ answers_to t (events_of v k bs) ++ answers_from v (table_after t (events_of v k bs)) rest
  answers_split =
      let later = answers_to (table_after t (events_of v k bs)) (reads_of v rest) in
      ap (λ (n : ℕ). answers_to t (events_of v n bs) ++ cut_answer (drop (whole bs * 14) bs)) count
      ∙ ap (λ (es : List Read). answers_to t es ++ cut_answer (drop (whole bs * 14) bs)) (events_add v k (whole rest) bs)
      ∙ ap (λ (l : List Answer). l ++ cut_answer (drop (whole bs * 14) bs)) (answers-append t (events_of v k bs) (reads_of v rest))
      ∙ append_assoc (answers_to t (events_of v k bs)) later (cut_answer (drop (whole bs * 14) bs))
      ∙ ap (λ (l : List ℕ). answers_to t (events_of v k bs) ++ (later ++ cut_answer l)) cut-rest

  before : length (answers_to t (events_of v k bs)) ≡ k
  before = length-answers t (events_of v k bs) ∙ length-events v k bs

  pub answers-later : drop k (answers_from v t bs) ≡ answers_from v (table_after t (events_of v k bs)) rest
  answers-later =
      ap (drop k) answers_split ∙ drop_at (answers_to t (events_of v k bs)) (answers_from v (table_after t (events_of v k bs)) rest) k before

  pub answer_there : get_or (answers_from v t bs) k Nothing ≡ get_or (answers_from v (table_after t (events_of v k bs)) rest) 0 Nothing
  answer_there =
      let n : k ≡ length (answers_to t (events_of v k bs)) + 0 = sym before ∙ sym (add-zero _) in
      ap (λ (l : List Answer). get_or l k Nothing) answers_split
      ∙ ap (λ (i : ℕ). get_or (answers_to t (events_of v k bs) ++ answers_from v (table_after t (events_of v k bs)) rest) i Nothing) n
      ∙ get_or-append-add (answers_to t (events_of v k bs)) (answers_from v (table_after t (events_of v k bs)) rest) 0 Nothing

-- THE FIRST ANSWER to bytes: 15 where they are no whole event

-- bytes that are there
some : (bs : List ℕ) → 0 < length bs → get_or (cut_answer bs) 0 Nothing ≡ Refused EventCut
some [] h = absurd (omega arith)
some (b ∷ bs) h = refl

pub first_answer : (v : ℕ) (t : Table) (bs : List ℕ) → 0 < length bs
    → get_or (answers_from v t bs) 0 Nothing ≡ (if ltb (length bs) 14 then Refused EventCut else (answered t (event_of v bs)).answer)
unfolding answers_to events_of
first_answer v t bs h = go (ltb (length bs) 14) refl (whole bs) refl
  where
    go : (b : Bool) → ltb (length bs) 14 ≡ b → (n : ℕ) → whole bs ≡ n
        → get_or (answers_to t (events_of v (whole bs) bs) ++ cut_answer (drop (whole bs * 14) bs)) 0 Nothing
        ≡ (if b then Refused EventCut else (answered t (event_of v bs)).answer)
    go true e zero n = rw n (some bs h)
    go true e (suc m) n = absurd (omega (arith, ltb-true (length bs) 14 e))
    go false e zero n = absurd (omega (arith, ltb-false (length bs) 14 e))
    go false e (suc m) n = rw n refl

-- HOW MANY

-- one answer more where bytes are left
length_cut : (bs : List ℕ) (k n : ℕ) → length bs < 14 → (k < n + length (cut_answer bs)) ↔ (k * 14 < n * 14 + length bs)
length_cut [] k n h = (λ l. omega arith, λ l. omega arith)
length_cut (b ∷ bs) k n h = (λ l. omega arith, λ l. omega arith)

-- "then a line for each event": event k has its line exactly where a byte of it is there
pub lines-count : (bs : List ℕ) (k : ℕ) → (k < length (answers_of bs)) ↔ (k * 14 < length (event_bytes bs))
lines-count bs k =
    let b = event_bytes bs in
    let c = drop (whole b * 14) b in
    let l : length c ≡ length b - whole b * 14 = length-drop (whole b * 14) b in
    let n : length (answers_of bs) ≡ whole b + length (cut_answer c)
    = length-append (answers_to (opening bs) (reads_of (version_of bs) b)) (cut_answer c) ∙ ap (λ (n : ℕ). n + length (cut_answer c)) (length_reads (version_of bs) (opening bs) b) in
    let i = length_cut c k (whole b) (omega arith) in
    (λ h. omega (arith, i.0 (rw n at h)), λ h. rw n (i.1 (omega arith)))
