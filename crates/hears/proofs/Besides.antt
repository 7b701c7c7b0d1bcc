-- Where the rows stand after what was heard, and the index beside them. Assumes nothing.
use Prim.Native.Nat.{ℕ}
use Rattle.std.specs.Prelude.{Option}
use mathlib.Core.Path.{◌≡◌, sym, ap, ◌∙◌, subst}
use mathlib.Core.List.{List}
use Rattle.rules.specs.Tables.{Table}
use Rattle.rules.specs.declared.Gate.{Gate}
use Rattle.rules.specs.declared.Phase.{Phase}
use Rattle.rules.specs.declared.Refusal.{Refusal}
use Rattle.rules.specs.declared.Answer.{Answer}
use Rattle.rules.specs.declared.Answer.TheVariants.{Sent, Nothing, Refused}
use Rattle.index.specs.Index.{Beside, stood, stands}
use Rattle.judge.specs.Judging.{sent_at}
use Rattle.judge.specs.Hearing.{said_of}
use Rattle.judge.specs.declared.Said.{Said}
use Rattle.judge.proofs.Heard.{sent_answer}

-- only an answer was heard
pub beside_said : {vs ix : List ℕ} (g : Gate) (r : Said) → r.gate ≡ g → Beside vs ix g.waiting → Beside vs ix r.gate.waiting
beside_said {vs} {ix} g r e b = subst (λ (h : Gate). Beside vs ix h.waiting) (sym e) b

module _ (ix ws : List ℕ) where
  -- a send has moved the rows
  pub send_stood : {p : Phase} {g i : ℕ} (a : Answer) → a ≡ Sent p g i → stands ix a ws ≡ stood ix ws
  unfolding stands
  send_stood a e = ap (λ (x : Answer). stands ix x ws) e

  -- by whatever phase
  pub sent_stood : (p : Phase) (t : Table) (i : ℕ) (a : Answer) → a ≡ (sent_at p t i).answer → stands ix a ws ≡ stood ix ws
  sent_stood p t i a e = send_stood a (e ∙ sent_answer p t i)

  -- to send nothing leaves them
  pub nothing_stands : {g : Gate} {n : Option ℕ} (r : Said) → r ≡ said_of g Nothing n → stands ix r.answer ws ≡ ws
  unfolding stands
  nothing_stands r e = ap (λ (x : Said). stands ix x.answer ws) e

  -- and so does a refusal
  pub refused-stands : {g : Gate} {n : Option ℕ} {why : Refusal} (r : Said) → r ≡ said_of g (Refused why) n → stands ix r.answer ws ≡ ws
  unfolding stands
  refused-stands r e = ap (λ (x : Said). stands ix x.answer ws) e
