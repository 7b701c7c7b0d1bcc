-- What the judge answers is what document 02, K10, says in plain facts: the lines are accepted exactly where all may stand, and else the number is that of the
-- first line that may not stand, with what was due there. Any two answers that the facts admit are equal. Assumes nothing. Words in quotes are K10's.
use Prim.Native.Nat.{ℕ, ◌+◌, ◌<◌}
use mathlib.Core.Path.{◌≡◌, refl, sym, ap, ◌∙◌, subst}
use mathlib.Core.Bool.{Bool, true, false}
use mathlib.Core.List.{List, [], ◌∷◌, ◌++◌, map, append_assoc}
use mathlib.Core.Logic.{◌↔◌}
use native.Mathlib.Omega.{arith}
use lib.ListN.{length, take, drop}
use Rattle.lists.specs.Words.{if◌then◌else◌}
use Rattle.rules.specs.Tables.{Table}
use Rattle.rules.specs.Choice.{Result}
use Rattle.gate.specs.Replies.{Four, four_of}
use Rattle.lines.specs.Line.{line_of}
use Rattle.trace.specs.Header.{header_of}
use Rattle.trace.specs.Printed.{lines_from}
use Rattle.trace.specs.Answers.{opening}
use Rattle.judge.specs.Acceptable.{Asked, May, ours, asked, head_line, Stands, lines_of, Acceptable, last_of, none_due, head_due, Amiss, FirstWrong, heading, later}
use Rattle.judge.specs.Judging.{begins, Heard, follows, wrong, heard, wrong_at, accepted, ended, onward, judged_from, judged_of}
use Rattle.judge.specs.declared.Judged.{Judged}
use Rattle.judge.proofs.Bytes.{begins_is, is_begins, behind_begin, begins-with, begins_not}
use Rattle.judge.proofs.Follows.{never, heard_may, may_heard}

-- FROM A TABLE ON, where n events stand before

-- all lines may stand
record Right (n : ℕ) (t : Table) (xs : List Asked) (ls : List ℕ) : Type 0 where
  results : List Result
  stand : Stands t xs results
  lines : ls ≡ lines_from n (map Result.answer results)

-- line m is the first that may not
record WrongFrom (n : ℕ) (t : Table) (xs : List Asked) (ls : List ℕ) (m : ℕ) (d : Four) : Type 0 where
  results : List Result
  rest : List ℕ
  numbered : m ≡ n + length results + 2
  stand : Stands t (take (length results) xs) results
  lines : ls ≡ lines_from n (map Result.answer results) ++ rest
  amiss : Amiss (last_of t results) (n + length results + 1) (drop (length results) xs) rest d

-- what a verdict says
data Says (n : ℕ) (t : Table) (xs : List Asked) (ls : List ℕ) (j : Judged) : Type 0 where
  right : Right n t xs ls → j ≡ accepted → Says n t xs ls j
  wrongly : (m : ℕ) (d : Four) → WrongFrom n t xs ls m d → j ≡ wrong_at m d → Says n t xs ls j

-- something is not nothing
some : {b : ℕ} {l : List ℕ} → b ∷ l ≡ [] → ⊥
some e = omega (arith, ap length e)

-- no line is heard yet: what is amiss is amiss here
wrong_here : (n : ℕ) (t : Table) (xs : List Asked) (ls : List ℕ) (d : Four) → Amiss t (n + 1) xs ls d → WrongFrom n t xs ls (n + 2) d
unfolding lines_from
wrong_here n t xs ls d a =
    let e : n + 1 ≡ n + 0 + 1 = omega arith in
    record { results = []; rest = ls; numbered = omega arith; stand = tt; lines = refl; amiss = subst (λ (k : ℕ). Amiss t k xs ls d) e a }

-- one line more in front
module _ (n : ℕ) (t : Table) (x : Asked) (xs : List Asked) (ls : List ℕ) (r : Result) (may : May t x r) (spoken : begins (line_of (n + 1) r.answer) ls ≡ true) where
  abbrev line : List ℕ
  line = line_of (n + 1) r.answer

  right_more : Right (n + 1) r.table xs (drop (length line) ls) → Right n t (x ∷ xs) ls
  unfolding lines_from
  right_more k = record { results = r ∷ k.results; stand = (may, k.stand); lines = begins_is line ls spoken ∙ ap (λ (l : List ℕ). line ++ l) k.lines }

  wrong_more : (m : ℕ) (d : Four) → WrongFrom (n + 1) r.table xs (drop (length line) ls) m d → WrongFrom n t (x ∷ xs) ls m d
  unfolding lines_from
  wrong_more m d k =
      let e : n + 1 + length k.results + 1 ≡ n + length (r ∷ k.results) + 1 = omega arith in
      record {
        results = r ∷ k.results;
        rest = k.rest;
        numbered = omega (arith, k.numbered);
        stand = (may, k.stand);
        lines = begins_is line ls spoken ∙ ap (λ (l : List ℕ). line ++ l) k.lines ∙ sym (append_assoc line (lines_from (n + 1) (map Result.answer k.results)) k.rest);
        amiss = subst (λ (i : ℕ). Amiss (last_of r.table k.results) i (drop (length k.results) xs) k.rest d) e k.amiss;
      }

  says_more : (j : Judged) → Says (n + 1) r.table xs (drop (length line) ls) j → Says n t (x ∷ xs) ls j
  says_more j (right k e) = right (right_more k) e
  says_more j (wrongly m d k e) = wrongly m d (wrong_more m d k) e

-- WHAT IS JUDGED SAYS SO
judged_says : (xs : List Asked) (n : ℕ) (t : Table) (ls : List ℕ) → Says n t xs ls (judged_from n t xs ls)
unfolding judged_from lines_from
judged_says [] n t [] = right (record { results = []; stand = tt; lines = refl }) refl
judged_says [] n t (b ∷ ls) = wrongly (n + 2) none_due (wrong_here n t [] (b ∷ ls) none_due (some, refl)) refl
judged_says (x ∷ xs) n t ls = go (heard (n + 1) ls t x) refl (judged_says xs (n + 1))
  where
    go : (h : Heard) → heard (n + 1) ls t x ≡ h → ((u : Table) (k : List ℕ) → Says (n + 1) u xs k (judged_from (n + 1) u xs k))
        → Says n t (x ∷ xs) ls (onward (λ r. judged_from (n + 1) r.table xs (drop (length (line_of (n + 1) r.answer)) ls)) (wrong_at (n + 2) (four_of (ours t x).answer)) h)
    go (follows r) e i =
        let m = heard_may (n + 1) ls t x r e in
        says_more n t x xs ls r m.0 m.1 _ (i r.table (drop (length (line_of (n + 1) r.answer)) ls))
    go wrong e i =
        wrongly (n + 2) (four_of (ours t x).answer)
        (wrong_here n t (x ∷ xs) ls (four_of (ours t x).answer)
        (λ r m b. never (sym e ∙ may_heard (n + 1) ls t x r m (ap (begins (line_of (n + 1) r.answer)) b.split ∙ is_begins (line_of (n + 1) r.answer) b.rest)), refl))
        refl

-- AND WHAT SAYS SO IS JUDGED

-- a line that may stand, and is there, is followed
stands_on : (n : ℕ) (t : Table) (x : Asked) (xs : List Asked) (r : Result) → May t x r → (ls rest : List ℕ) → ls ≡ line_of (n + 1) r.answer ++ rest
    → judged_from n t (x ∷ xs) ls ≡ judged_from (n + 1) r.table xs rest
unfolding judged_from
stands_on n t x xs r m ls rest e =
    let line = line_of (n + 1) r.answer in
    let h = may_heard (n + 1) ls t x r m (ap (begins line) e ∙ is_begins line rest) in
    ap (onward (λ q. judged_from (n + 1) q.table xs (drop (length (line_of (n + 1) q.answer)) ls)) (wrong_at (n + 2) (four_of (ours t x).answer))) h
    ∙ ap (judged_from (n + 1) r.table xs) (ap (drop (length line)) e ∙ behind_begin line rest)

right_judged : (rs : List Result) (xs : List Asked) (n : ℕ) (t : Table) → Stands t xs rs → (ls : List ℕ) → ls ≡ lines_from n (map Result.answer rs) → judged_from n t xs ls ≡ accepted
unfolding judged_from lines_from
right_judged [] [] n t s ls e = ap (ended (n + 2)) e
right_judged [] (x ∷ xs) n t s ls e = absurd s
right_judged (r ∷ rs) [] n t s ls e = absurd s
right_judged (r ∷ rs) (x ∷ xs) n t s ls e =
    stands_on n t x xs r s.0 ls (lines_from (n + 1) (map Result.answer rs)) e
    ∙ right_judged rs xs (n + 1) r.table s.1 (lines_from (n + 1) (map Result.answer rs)) refl

-- what is amiss here is judged wrong here
amiss_judged : (xs : List Asked) (n : ℕ) (t : Table) (ls : List ℕ) (d : Four) → Amiss t (n + 1) xs ls d → judged_from n t xs ls ≡ wrong_at (n + 2) d
unfolding judged_from
amiss_judged [] n t [] d a = absurd (a.0 refl)
amiss_judged [] n t (b ∷ ls) d a = ap (wrong_at (n + 2)) (sym a.1)
amiss_judged (x ∷ xs) n t ls d a = go (heard (n + 1) ls t x) refl ∙ ap (wrong_at (n + 2)) (sym a.1)
  where
    go : (h : Heard) → heard (n + 1) ls t x ≡ h
        → onward (λ r. judged_from (n + 1) r.table xs (drop (length (line_of (n + 1) r.answer)) ls)) (wrong_at (n + 2) (four_of (ours t x).answer)) h ≡ wrong_at (n + 2) (four_of (ours t x).answer)
    go (follows r) e = let m = heard_may (n + 1) ls t x r e in absurd (a.0 r m.0 (begins-with (line_of (n + 1) r.answer) ls m.1))
    go wrong e = refl

wrong_judged : (rs : List Result) (xs : List Asked) (n : ℕ) (t : Table) → Stands t (take (length rs) xs) rs → (ls rest : List ℕ) → ls ≡ lines_from n (map Result.answer rs) ++ rest
    → (d : Four) → Amiss (last_of t rs) (n + length rs + 1) (drop (length rs) xs) rest d → judged_from n t xs ls ≡ wrong_at (n + length rs + 2) d
unfolding lines_from
wrong_judged [] xs n t s ls rest e d a =
    let f : n + 0 + 1 ≡ n + 1 = omega arith in
    let g : n + 2 ≡ n + 0 + 2 = omega arith in
    ap (judged_from n t xs) e ∙ amiss_judged xs n t rest d (subst (λ (k : ℕ). Amiss t k xs rest d) f a) ∙ ap (λ (k : ℕ). wrong_at k d) g
wrong_judged (r ∷ rs) [] n t s ls rest e d a = absurd s
wrong_judged (r ∷ rs) (x ∷ xs) n t s ls rest e d a =
    let line = line_of (n + 1) r.answer in
    let others = lines_from (n + 1) (map Result.answer rs) in
    let f : n + length (r ∷ rs) + 1 ≡ n + 1 + length rs + 1 = omega arith in
    let g : n + 1 + length rs + 2 ≡ n + length (r ∷ rs) + 2 = omega arith in
    stands_on n t x xs r s.0 ls (others ++ rest) (e ∙ append_assoc line others rest)
    ∙ wrong_judged rs xs (n + 1) r.table s.1 (others ++ rest) rest refl d (subst (λ (k : ℕ). Amiss (last_of r.table rs) k (drop (length rs) xs) rest d) f a)
    ∙ ap (λ (k : ℕ). wrong_at k d) g

-- A WHOLE TRACE

module _ (bs ls : List ℕ) where
  -- the verdict on a whole trace
  data Verdict (j : Judged) : Type 0 where
    stands : Acceptable bs ls → j ≡ accepted → Verdict j
    falls : (n : ℕ) (d : Four) → FirstWrong bs ls n d → j ≡ wrong_at n d → Verdict j

  abbrev behind : List ℕ
  behind = drop (length (head_line bs)) ls

  whole : (j : Judged) → begins (head_line bs) ls ≡ true → Says 0 (opening bs) (asked bs) behind j → Verdict j
  whole j b (right k q) = stands (record { results = k.results; stand = k.stand; lines = begins_is (head_line bs) ls b ∙ ap (λ (l : List ℕ). head_line bs ++ l) k.lines }) q
  whole j b (wrongly m d k q) =
      let f : 0 + length k.results + 1 ≡ length k.results + 1 = omega arith in
      falls m d
      (later k.results k.rest (omega (arith, k.numbered)) k.stand (begins_is (head_line bs) ls b ∙ ap (λ (l : List ℕ). head_line bs ++ l) k.lines)
      (subst (λ (y : ℕ). Amiss (last_of (opening bs) k.results) y (drop (length k.results) (asked bs)) k.rest d) f k.amiss))
      q

  verdict : Verdict (judged_of bs ls)
  unfolding judged_of
  verdict = go (begins (head_line bs) ls) refl
    where
      go : (b : Bool) → begins (head_line bs) ls ≡ b → Verdict (if b then judged_from 0 (opening bs) (asked bs) behind else wrong_at 1 (head_due (header_of bs)))
      go true b = whole (judged_from 0 (opening bs) (asked bs) behind) b (judged_says (asked bs) 0 (opening bs) behind)
      go false b = falls 1 (head_due (header_of bs)) (heading refl (begins_not (head_line bs) ls b) refl) refl

  -- AND BACK

  -- what begins with the header line is judged behind it
  headed : (rest : List ℕ) → ls ≡ head_line bs ++ rest → judged_of bs ls ≡ judged_from 0 (opening bs) (asked bs) rest
  unfolding judged_of
  headed rest e = rw (ap (begins (head_line bs)) e ∙ is_begins (head_line bs) rest) (ap (judged_from 0 (opening bs) (asked bs)) (ap (drop (length (head_line bs))) e ∙ behind_begin (head_line bs) rest))

  pub acceptable_judged : Acceptable bs ls → judged_of bs ls ≡ accepted
  acceptable_judged a = headed (lines_of a.results) a.lines ∙ right_judged a.results (asked bs) 0 (opening bs) a.stand (lines_of a.results) refl

  wrong_is : (n : ℕ) (d : Four) → FirstWrong bs ls n d → judged_of bs ls ≡ wrong_at n d
  unfolding judged_of
  wrong_is n d (heading m h e) = go (begins (head_line bs) ls) refl
    where
      go : (b : Bool) → begins (head_line bs) ls ≡ b → (if b then judged_from 0 (opening bs) (asked bs) behind else wrong_at 1 (head_due (header_of bs))) ≡ wrong_at n d
      go true b = absurd (h (begins-with (head_line bs) ls b))
      go false b = λ i. wrong_at (sym m i) (sym e i)
  wrong_is n d (later rs rest m s e a) =
      let f : length rs + 1 ≡ 0 + length rs + 1 = omega arith in
      let g : 0 + length rs + 2 ≡ n = omega (arith, m) in
      headed (lines_of rs ++ rest) e
      ∙ wrong_judged rs (asked bs) 0 (opening bs) s (lines_of rs ++ rest) rest refl d (subst (λ (k : ℕ). Amiss (last_of (opening bs) rs) k (drop (length rs) (asked bs)) rest d) f a)
      ∙ ap (λ (k : ℕ). wrong_at k d) g

  -- THE THEOREMS

  -- the first wrong line has a number
  numbered : (n : ℕ) (d : Four) → FirstWrong bs ls n d → 0 < n
  numbered n d (heading m h e) = omega arith
  numbered n d (later rs rest m s e a) = omega arith

  -- "Accept its lines exactly when" all of them may stand.
  pub accepted_exactly : (judged_of bs ls ≡ accepted) ↔ Acceptable bs ls
  accepted_exactly = (λ e. go (judged_of bs ls) verdict e, acceptable_judged)
    where
      go : (j : Judged) → Verdict j → j ≡ accepted → Acceptable bs ls
      go j (stands a q) e = a
      go j (falls n d w q) e = absurd (omega (arith, numbered n d w, ap Judged.line (sym e ∙ q)))

  -- "Otherwise give the number of the first wrong, missing or surplus line, the header line being 1", and what was due there: that number and no other.
  pub wrong_exactly : (n : ℕ) (d : Four) → ((judged_of bs ls ≡ wrong_at n d) × (0 < n)) ↔ FirstWrong bs ls n d
  wrong_exactly n d = (λ e. go (judged_of bs ls) verdict e.0 e.1, λ w. (wrong_is n d w, numbered n d w))
    where
      go : (j : Judged) → Verdict j → j ≡ wrong_at n d → 0 < n → FirstWrong bs ls n d
      go j (stands a q) e h = absurd (omega (arith, ap Judged.line (sym e ∙ q)))
      go j (falls m f w q) e h =
          let z : wrong_at m f ≡ wrong_at n d = sym q ∙ e in
          subst (λ (y : ℕ × Four). FirstWrong bs ls y.0 y.1) (λ i. ((z i).line, ((z i).kind, (z i).guest, (z i).id, (z i).refusal))) w

  -- it is one or the other, as the answer's first number says
  pub line_zero : ((judged_of bs ls).line ≡ 0) ↔ (judged_of bs ls ≡ accepted)
  line_zero = (λ e. go (judged_of bs ls) verdict e, λ e. ap Judged.line e)
    where
      go : (j : Judged) → Verdict j → j.line ≡ 0 → j ≡ accepted
      go j (stands a q) e = q
      go j (falls n d w q) e = absurd (omega (arith, numbered n d w, ap Judged.line q))
