-- "Requests of one guest always leave in order of acceptance": of the calls, over any run from any host, read off the events, the answers and
-- the waiting requests, for every way in which guests are lent. Assumes nothing.
use Prim.Native.Nat.{ℕ}
use mathlib.Core.Path.{◌≡◌, refl, sym, ap, ◌∙◌}
use mathlib.Core.Bool.{Bool, true, false, true≢false}
use mathlib.Core.List.{List, [], ◌∷◌, ◌++◌, append_assoc, append-nil}
use Rattle.lists.specs.Words.{if◌then◌else◌}
use Rattle.rules.specs.Tables.{Table}
use Rattle.rules.specs.declared.Event.{Event}
use Rattle.rules.specs.Order.{waits, brings, sends, left}
use Rattle.rules.proofs.InOrder.{step_waits}
use Rattle.rules.proofs.Answered.{step-taken}
use Rattle.rules.specs.declared.Answer.{Answer}
use Rattle.rules.specs.declared.Answer.TheVariants.{Nothing, Sent, Refused}
use Rattle.gate.specs.Promise.{Lending}
use Rattle.gate.specs.Calls.{Host, holds, call, held, replies, shows, firm, taken, took}
use Rattle.gate.proofs.Lending.{Lawful}
use Rattle.gate.proofs.Runs.{firm-holds, call-answers, call-shows, infirm_call}

-- a refusal sends nothing
refused-sends : (n : ℕ) (a : Answer) → taken a ≡ false → sends n a ≡ []
refused-sends n Nothing h = absurd (true≢false h)
refused-sends n (Sent p g i) h = absurd (true≢false h)
refused-sends n (Refused r) h = refl

module _ (v : Lending) (lawful : Lawful v) where
  -- one call: what waited and what came is what left and what waits
  call-waits : (n : ℕ) (h : Host v) (e : Event)
      → waits n (shows v h) ++ (if taken (call v e h).0.answer then brings n e else []) ≡ sends n (call v e h).0.answer ++ waits n (shows v (holds v (call v e h)))
  call-waits n h e = go (firm v h) refl
    where
      t : Table
      t = shows v h

      a : Answer
      a = (call v e h).0.answer

      go : (b : Bool) → firm v h ≡ b → waits n t ++ (if taken a then brings n e else []) ≡ sends n a ++ waits n (shows v (holds v (call v e h)))
      go true f =
          let k = firm-holds v lawful h f in
          let p = call-answers v lawful h k e in
          ap (λ (b : Bool). waits n t ++ (if b then brings n e else [])) (ap taken p ∙ step-taken t e)
          ∙ step_waits n t e
          ∙ sym (λ i. sends n (p i) ++ waits n (call-shows v lawful h k e i))
      go false f =
          let c = infirm_call v lawful h f e in
          ap (λ (b : Bool). waits n t ++ (if b then brings n e else [])) c.0
          ∙ append-nil (waits n t)
          ∙ sym (λ i. refused-sends n a c.0 i ++ waits n (shows v (c.1 i)))

  -- Of each guest, over any run of calls: what waited and what was accepted is, in this order, what left and what still waits.
  pub calls_in_order : (n : ℕ) (es : List Event) (h : Host v)
      → waits n (shows v h) ++ took n es (replies v h es) ≡ left n (replies v h es) ++ waits n (shows v (held v h es))
  unfolding held replies took
  calls_in_order n [] h = append-nil (waits n (shows v h))
  calls_in_order n (e ∷ es) h =
      let a = (call v e h).0.answer in
      let u = holds v (call v e h) in
      let came = if taken a then brings n e else [] in
      sym (append_assoc (waits n (shows v h)) came (took n es (replies v u es)))
      ∙ ap (◌++ took n es (replies v u es)) (call-waits n h e)
      ∙ append_assoc (sends n a) (waits n (shows v u)) (took n es (replies v u es))
      ∙ ap (sends n a ++◌) (calls_in_order n es u)
      ∙ sym (append_assoc (sends n a) (left n (replies v u es)) (waits n (shows v (held v u es))))
