-- Document 02, K5, "exactly as if they came one by one": what a batch leaves is what a run of calls with its events leaves, and its answers are theirs, the bad
-- ones passed over. On any tables, sound or not, long enough or not: nothing is asked of them. Assumes nothing.
use Rattle.std.specs.Prelude.{Some, None, Option}
use Prim.Native.Nat.{ℕ}
use mathlib.Core.Path.{◌≡◌, refl, sym, ap, ◌∙◌}
use mathlib.Core.List.{List, [], ◌∷◌, map}
use Rattle.lists.specs.Words.{if◌then◌else◌}
use Rattle.rules.specs.Refusals.{Verdict, accept, refuse, judged, is_accept}
use Rattle.rules.specs.declared.Outcome.{Outcome}
use Rattle.gate.specs.Promise.{Lending}
use Rattle.gate.specs.Calls.{Host, holds, call, held, replies, wakings}
use Rattle.batch.specs.Rows.{events_in, answers_over}
use Rattle.batch.specs.Promise.{held_after, outcomes, batch_tests, batched_by, batched_in}
use Rattle.batch.specs.Batches.{goods, good, Batch, done_by, all_done, leaves, batch, held_batches}
use Rattle.batch.proofs.Runs.{held-append}
use Rattle.rules.specs.declared.Event.{Event}

module _ (v : Lending) where
  -- what events leave is what the calls leave
  pub held_calls : (rs : List (Option Event)) (h : Host v) → held_after v h rs ≡ held v h (goods rs)
  unfolding held_after held goods
  held_calls [] h = refl
  held_calls (Some e ∷ rs) h = held_calls rs (holds v (call v e h))
  held_calls (None ∷ rs) h = held_calls rs h

  -- their answers are the calls' answers
  pub answers_calls : (rs : List (Option Event)) (h : Host v) → map Outcome.answer (good rs (outcomes v h rs)) ≡ replies v h (goods rs)
  unfolding outcomes replies goods good
  answers_calls [] h = refl
  answers_calls (Some e ∷ rs) h = ap ((call v e h).0.answer ∷◌) (answers_calls rs (holds v (call v e h)))
  answers_calls (None ∷ rs) h = answers_calls rs h

  -- and so are their times to wake
  pub wakes_calls : (rs : List (Option Event)) (h : Host v) → map Outcome.wake (good rs (outcomes v h rs)) ≡ wakings v h (goods rs)
  unfolding outcomes wakings goods good
  wakes_calls [] h = refl
  wakes_calls (Some e ∷ rs) h = ap ((call v e h).0.wake ∷◌) (wakes_calls rs (holds v (call v e h)))
  wakes_calls (None ∷ rs) h = wakes_calls rs h

  -- a batch that is not refused as a whole: it leaves what the calls leave, and its answers are what they came to
  pub record AsCalls (es : List ℕ) (h : Host v) (bs : List ℕ) : Type 0 where
    pub left : leaves v (batched_in v es h.gate h.guests h.waiting h.flight bs) ≡ held v h (goods (events_in es))
    pub written : (batched_in v es h.gate h.guests h.waiting h.flight bs).4 ≡ answers_over (outcomes v h (events_in es)) bs
    pub answered : map Outcome.answer (good (events_in es) (outcomes v h (events_in es))) ≡ replies v h (goods (events_in es))
    pub woken : map Outcome.wake (good (events_in es) (outcomes v h (events_in es))) ≡ wakings v h (goods (events_in es))

  pub batch_as_calls : (es : List ℕ) (h : Host v) (bs : List ℕ) → judged (batch_tests es bs) ≡ accept → AsCalls es h bs
  unfolding batched_in
  batch_as_calls es h bs p =
      record {
        left = ap (λ (w : Verdict). leaves v (batched_by v w es h bs)) p ∙ held_calls (events_in es) h;
        written = ap (λ (w : Verdict). (batched_by v w es h bs).4) p;
        answered = answers_calls (events_in es) h;
        woken = wakes_calls (events_in es) h;
      }

  -- A RUN OF BATCHES leaves what a run of calls with all their events leaves

  batch-done : (b : Batch) (h : Host v) → leaves v (batch v b h) ≡ held_after v h (done_by b)
  unfolding batched_in held_after
  batch-done b h = go (judged (batch_tests b.events b.answers))
    where
      go : (w : Verdict) → leaves v (batched_by v w b.events h b.answers) ≡ held_after v h (if is_accept w then events_in b.events else [])
      go accept = refl
      go (refuse r) = refl

  pub batches_done : (bs : List Batch) (h : Host v) → held_batches v h bs ≡ held_after v h (all_done bs)
  unfolding held_batches all_done held_after
  batches_done [] h = refl
  batches_done (b ∷ bs) h =
      batches_done bs (leaves v (batch v b h))
      ∙ ap (λ (u : Host v). held_after v u (all_done bs)) (batch-done b h)
      ∙ sym (held-append v (done_by b) (all_done bs) h)

  pub batches_as_calls : (bs : List Batch) (h : Host v) → held_batches v h bs ≡ held v h (goods (all_done bs))
  batches_as_calls bs h = batches_done bs h ∙ held_calls (all_done bs) h
