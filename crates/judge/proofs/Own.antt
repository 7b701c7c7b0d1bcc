-- "Our own lines are always accepted", for every trace; and what a line's number counts. Assumes nothing. Words in quotes are K10's.
use Prim.Native.Nat.{ℕ, ◌*◌}
use mathlib.Core.Path.{◌≡◌, refl, sym, ap, ◌∙◌}
use mathlib.Core.List.{List, [], ◌∷◌, ◌++◌, map, append-nil}
use lib.ListN.{drop}
use Rattle.rules.specs.Tables.{Table}
use Rattle.rules.specs.Choice.{Result, choice}
use Rattle.rules.specs.Chosen.{Foremost, Chosen, full, reservation, weight, nothing}
use Rattle.rules.specs.Events.{enter}
use Rattle.rules.specs.Refusals.{Verdict, accept, refuse, verdict, is_accept, judged}
use Rattle.rules.specs.Run.{decided, step}
use Rattle.rules.specs.declared.Phase.{Phase}
use Rattle.rules.specs.declared.Phase.TheVariants.{Reservation, Weight}
use Rattle.rules.specs.declared.Answer.{Answer}
use Rattle.rules.proofs.Facts.{Sound}
use Rattle.rules.proofs.EnterSound.{enter-sound}
use Rattle.rules.proofs.Chosen.{chosen}
use Rattle.lines.specs.Line.{refusal_line, title_line}
use Rattle.trace.specs.Header.{version_of, header_tests, header_by, header_of, Header}
use Rattle.trace.specs.Event.{whole, Read}
use Rattle.trace.specs.Printed.{answered, answers_to, lines_from, printed_by, printed}
use Rattle.trace.specs.Answers.{event_bytes, opening, reads_of, cut_answer}
use Rattle.trace.proofs.Answers.{printed-lines}
use Rattle.judge.specs.Acceptable.{MayGo, MayChoose, full as full_too, reservation as reservation_too, weight as weight_too, nothing as nothing_too, Asked, entire, cut_off, MayDecide, May, ours, cut_asked, asked_by, head_by, Stands, lines_of, Acceptable}
use Rattle.judge.specs.Judging.{ok_in, tag_in, accepted, judged_of}
use Rattle.judge.proofs.Tied.{foremost_first}
use Rattle.judge.proofs.Exactly.{acceptable_judged}
use Rattle.std.specs.Prelude.{Some, None, Err}

-- OUR CHOICE MAY STAND

module _ (t : Table) (s : Sound t) where
  -- what stands foremost may go
  foremost_may : (p : Phase) (i : ℕ) → Foremost (ok_in p t) (tag_in p) t.waiting i → MayGo (ok_in p t) (tag_in p) t.waiting i
  foremost_may p i f = record { inside = f.inside; good = f.good; smallest = f.smallest; first = foremost_first t s i f.inside p f }

  chosen_may : (r : Result) → Chosen t r → MayChoose t r
  chosen_may r (full x e) = full_too x e
  chosen_may r (reservation i x f e) = reservation_too i x (foremost_may Reservation i f) e
  chosen_may r (weight i x nd f e) = weight_too i x nd (foremost_may Weight i f) e
  chosen_may r (nothing x nd none e) = nothing_too x nd none e

ours_may : (t : Table) (x : Asked) → May t x (ours t x)
unfolding answered step decided
ours_may t (entire (Some e)) = go (verdict t e) refl
  where
    go : (v : Verdict) → verdict t e ≡ v → MayDecide v t e (decided v t e)
    go accept k = chosen_may (enter t e) (enter-sound t e (ap is_accept k)) (choice (enter t e)) (chosen (enter t e))
    go (refuse why) k = refl
ours_may t (entire None) = refl
ours_may t cut_off = refl

-- what our rules come to, one after the other
abbrev ours_from : Table → List Asked → List Result
ours_from t [] = []
ours_from t (x ∷ xs) = ours t x ∷ ours_from (ours t x).table xs

ours_stand : (xs : List Asked) (t : Table) → Stands t xs (ours_from t xs)
ours_stand [] t = tt
ours_stand (x ∷ xs) t = (ours_may t x, ours_stand xs (ours t x).table)

-- OUR LINES

-- are those of these results
cut-answers : (t : Table) (bs : List ℕ) → map Result.answer (ours_from t (cut_asked bs)) ≡ cut_answer bs
cut-answers t [] = refl
cut-answers t (b ∷ bs) = refl

ours-answers : (es : List Read) (t : Table) (bs : List ℕ) → map Result.answer (ours_from t (map entire es ++ cut_asked bs)) ≡ answers_to t es ++ cut_answer bs
unfolding answers_to
ours-answers [] t bs = cut-answers t bs
ours-answers (e ∷ es) t bs = ap ((answered t e).answer ∷◌) (ours-answers es (answered t e).table bs)

-- so they are acceptable
own_acceptable : (bs : List ℕ) (v : Verdict) → judged (header_tests bs) ≡ v → Acceptable bs (printed bs)
unfolding printed lines_from
own_acceptable bs (refuse r) e =
    let h : header_of bs ≡ Err r = ap (λ (v : Verdict). header_by v bs) e in
    record {
      results = [];
      stand = rw h tt;
      lines = ap (λ (x : Header). printed_by x bs) h ∙ sym (append-nil (refusal_line r)) ∙ ap (λ (x : Header). head_by x ++ []) (sym h);
    }
own_acceptable bs accept e =
    let h : header_of bs ≡ header_by accept bs = ap (λ (v : Verdict). header_by v bs) e in
    let xs = asked_by (header_by accept bs) bs in
    record {
      results = ours_from (opening bs) xs;
      stand = rw h (ours_stand xs (opening bs));
      lines = printed-lines bs e
          ∙ ap (λ (l : List Answer). title_line ++ lines_from 0 l) (sym (ours-answers (reads_of (version_of bs) (event_bytes bs)) (opening bs) (drop (whole (event_bytes bs) * 14) (event_bytes bs))))
          ∙ ap (λ (x : Header). head_by x ++ lines_of (ours_from (opening bs) xs)) (sym h);
    }

-- "Our own lines are always accepted."
pub own-accepted : (bs : List ℕ) → judged_of bs (printed bs) ≡ accepted
own-accepted bs = acceptable_judged bs (printed bs) (own_acceptable bs (judged (header_tests bs)) refl)
