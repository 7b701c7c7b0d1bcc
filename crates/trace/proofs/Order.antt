-- "Requests of one guest always leave in order of acceptance": of the printed answers of a trace, read off its events and answers. Assumes nothing.
use Prim.Native.Nat.{ℕ, ◌*◌}
use mathlib.Core.Path.{◌≡◌, refl, sym, ap, ◌∙◌}
use mathlib.Core.Bool.{Bool}
use mathlib.Core.List.{List, [], ◌∷◌, ◌++◌, append_assoc, append-nil}
use lib.ListN.{drop}
use Rattle.lists.specs.Words.{if◌then◌else◌}
use Rattle.rules.specs.Tables.{Table}
use Rattle.rules.specs.Answers.{taken}
use Rattle.rules.specs.declared.Event.{Event}
use Rattle.rules.specs.Order.{waits, brings, sends, left}
use Rattle.rules.specs.Run.{step, fresh}
use Rattle.rules.proofs.InOrder.{step_waits}
use Rattle.rules.proofs.Answered.{step-taken}
use Rattle.rules.specs.declared.Answer.{Answer}
use Rattle.trace.specs.Header.{version_of}
use Rattle.trace.specs.Event.{whole, Read}
use Rattle.trace.specs.Printed.{answered, answers_to, table_after}
use Rattle.trace.specs.Answers.{by_event, event_bytes, opening, table_at, reads_of, cut_answer, answers_of, accepted_ids}
use Rattle.std.specs.Prelude.{Some, None}

module _ (g : ℕ) where
  -- the ids of the guest that an event brings and its answer accepts
  abbrev comes : Read → Answer → List ℕ
  comes r a = if taken a then by_event [] (brings g) r else []

  -- one event: what waited and what came is what left and what waits
  event_waits : (t : Table) (e : Event)
      → waits g t ++ (if taken (step t e).answer then brings g e else []) ≡ sends g (step t e).answer ++ waits g (step t e).table
  event_waits t e = ap (λ (b : Bool). waits g t ++ (if b then brings g e else [])) (step-taken t e) ∙ step_waits g t e

  read-waits : (t : Table) (r : Read) → waits g t ++ comes r (answered t r).answer ≡ sends g (answered t r).answer ++ waits g (answered t r).table
  unfolding answered
  read-waits t (Some e) = event_waits t e
  read-waits t None = append-nil (waits g t)

  -- a run of events, whatever answers stand behind theirs
  run-waits : (rs : List Read) (t : Table) (more : List Answer)
      → waits g t ++ accepted_ids g rs (answers_to t rs ++ more) ≡ left g (answers_to t rs) ++ waits g (table_after t rs)
  unfolding accepted_ids answers_to table_after
  run-waits [] t more = append-nil (waits g t)
  run-waits (r ∷ rs) t more =
      let a = (answered t r).answer in
      let u = (answered t r).table in
      let ids = accepted_ids g rs (answers_to u rs ++ more) in
      sym (append_assoc (waits g t) (comes r a) ids)
      ∙ ap (◌++ ids) (read-waits t r)
      ∙ append_assoc (sends g a) (waits g u) ids
      ∙ ap (sends g a ++◌) (run-waits rs u more)
      ∙ sym (append_assoc (sends g a) (left g (answers_to u rs)) (waits g (table_after u rs)))

  -- a cut last event sends nothing
  cut-sends : (l : List Answer) (bs : List ℕ) → left g (l ++ cut_answer bs) ≡ left g l
  cut-sends [] [] = refl
  cut-sends [] (b ∷ bs) = refl
  cut-sends (a ∷ l) bs = ap (sends g a ++◌) (cut-sends l bs)

  -- Of each guest, over a whole trace: what was accepted is, in this order, what left and what still waits.
  pub trace_in_order : (bs : List ℕ)
      → accepted_ids g (reads_of (version_of bs) (event_bytes bs)) (answers_of bs) ≡ left g (answers_of bs) ++ waits g (table_at bs (whole (event_bytes bs)))
  unfolding fresh
  trace_in_order bs =
      let b = event_bytes bs in
      let rest = cut_answer (drop (whole b * 14) b) in
      run-waits (reads_of (version_of bs) b) (opening bs) rest
      ∙ ap (◌++ waits g (table_at bs (whole b))) (sym (cut-sends (answers_to (opening bs) (reads_of (version_of bs) b)) (drop (whole b * 14) b)))
