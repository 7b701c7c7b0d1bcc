-- A call at an array that answers with a refusal hands back all six as they were: the gate, the three tables, the counters of all arrays and the phases. For an
-- opening the gate is the one of which nothing is open. Assumes nothing.
use Prim.Native.Nat.{ℕ}
use mathlib.Core.Path.{◌≡◌, refl, sym, ap, ◌∙◌}
use mathlib.Core.Bool.{Bool, true, false, true≢false}
use mathlib.Core.List.{List}
use Rattle.rules.specs.Answers.{taken}
use Rattle.rules.specs.Refusals.{Verdict, accept, refuse, judged}
use Rattle.rules.specs.declared.Gate.{Gate}
use Rattle.rules.specs.declared.Refusal.{Refusal}
use Rattle.rules.specs.declared.Answer.{Answer}
use Rattle.rules.specs.declared.Answer.TheVariants.{Refused}
use Rattle.gate.specs.Promise.{numbers, HandedIn, called, opened, unopened}
use Rattle.gate.proofs.Refusing.{refusal_keeps, opening_keeps}
use Rattle.arrays.specs.declared.Site.{Site}
use Rattle.arrays.specs.declared.Ask.{Ask}
use Rattle.arrays.specs.Promise.{with, kept_at, ask_tests, handed_on, counted_at, asked_by, asked, opening_tests, started_at, begun_by, begun}

-- a refusal is taken for none that is accepted
refused_not : {a : Answer} {r : Refusal} → a ≡ Refused r → taken a ≡ true → ⊥
refused_not e t = true≢false (sym t ∙ ap taken e)

-- an arrival, a completion and a tick that are refused leave all as it stood
pub asked_keeps : (s : Site) (g : Gate) (gs ws fs cs ps : List ℕ) (k : Ask) (r : Refusal)
    → (asked s g gs ws fs cs ps k).0.answer ≡ Refused r → asked s g gs ws fs cs ps k ≡ kept_at g gs ws fs cs ps r
unfolding asked
asked_keeps s g gs ws fs cs ps k r = go (judged (ask_tests s g cs ps k))
  where
    h : HandedIn numbers
    h = called (handed_on s g cs k) g gs ws fs

    by : (b : Bool) → taken h.0.answer ≡ b → (counted_at b s g fs cs ps k h).0.answer ≡ Refused r → counted_at b s g fs cs ps k h ≡ kept_at g gs ws fs cs ps r
    by true t e = absurd (refused_not e t)
    by false t e = ap (λ (x : HandedIn numbers). with x cs ps) (refusal_keeps numbers (handed_on s g cs k) g gs ws fs r e)

    go : (w : Verdict) → (asked_by w s g gs ws fs cs ps k).0.answer ≡ Refused r → asked_by w s g gs ws fs cs ps k ≡ kept_at g gs ws fs cs ps r
    go accept e = by (taken h.0.answer) refl e
    go (refuse x) e = λ i. (record { gate = g; answer = e i; wake = (kept_at g gs ws fs cs ps r).0.wake }, gs, ws, fs, cs, ps)

-- an opening that is refused opens nothing, and leaves all that was lent
pub begun_keeps : (s : Site) (d n c rule : ℕ) (ss gs ws fs cs ps : List ℕ) (r : Refusal)
    → (begun s d n c rule ss gs ws fs cs ps).0.answer ≡ Refused r → begun s d n c rule ss gs ws fs cs ps ≡ kept_at unopened gs ws fs cs ps r
unfolding begun
begun_keeps s d n c rule ss gs ws fs cs ps r = go (judged (opening_tests s d n c rule cs ps))
  where
    h : HandedIn numbers
    h = opened d n c rule ss gs ws fs

    by : (b : Bool) → taken h.0.answer ≡ b → (started_at b s d n cs ps h).0.answer ≡ Refused r → started_at b s d n cs ps h ≡ kept_at unopened gs ws fs cs ps r
    by true t e = absurd (refused_not e t)
    by false t e = ap (λ (x : HandedIn numbers). with x cs ps) (opening_keeps numbers d n c rule ss gs ws fs r e)

    go : (w : Verdict) → (begun_by w s d n c rule ss gs ws fs cs ps).0.answer ≡ Refused r → begun_by w s d n c rule ss gs ws fs cs ps ≡ kept_at unopened gs ws fs cs ps r
    go accept e = by (taken h.0.answer) refl e
    go (refuse x) e = λ i. (record { gate = unopened; answer = e i; wake = (kept_at unopened gs ws fs cs ps r).0.wake }, gs, ws, fs, cs, ps)
