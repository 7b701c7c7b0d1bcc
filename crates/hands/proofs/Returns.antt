-- What a call of the host hands back, from what the call over numbers promises. Assumes nothing.
use Prim.Native.Nat.{ℕ}
use mathlib.Core.Path.{◌≡◌, ap, ◌∙◌}
use mathlib.Core.List.{List}
use Rattle.rules.specs.declared.Gate.{Gate}
use Rattle.table.specs.View.{Handed}
use Rattle.rules.specs.declared.Event.{Event}
use Rattle.gate.specs.Promise.{seen, called}
use Rattle.gate.proofs.Once.{seen_once}
use Rattle.gate.specs.declared.Reply.{Reply}
use Rattle.gate.specs.Replies.{reply_of}
use Rattle.arrays.specs.declared.Site.{Site}
use Rattle.arrays.specs.declared.Ask.{Ask}
use Rattle.arrays.specs.Promise.{HandedAt, seen_at, asked}
use Rattle.arrays.proofs.Once.{seen-at_once}
use Rattle.hands.specs.Host.{gate_in, written, hosted, house_hosted}

-- what was handed back, with the seven numbers written and the answer as five
pub returned : (v v' : List ℕ) (r : Reply) (h k : Handed) → seen h ≡ seen k → r ≡ reply_of h.0.answer h.0.wake → v' ≡ written h.0.answer h.0.gate v → (r, v', h.1, h.2, h.3) ≡ hosted v k
returned v v' r h k p er ev = (λ i. (er i, ev i, h.1, h.2, h.3)) ∙ ap (hosted v) (seen_once h k p)

-- the same of a call on the gate that the seven numbers are
pub call-returned : (e : Event) (v v' : List ℕ) (g : Gate) → g ≡ gate_in v → (gs ws fs : List ℕ) (r : Reply) (h : Handed) → seen h ≡ seen (called e g gs ws fs)
    → r ≡ reply_of h.0.answer h.0.wake → v' ≡ written h.0.answer h.0.gate v → (r, v', h.1, h.2, h.3) ≡ hosted v (called e (gate_in v) gs ws fs)
call-returned e v v' g eg gs ws fs r h p er ev = returned v v' r h (called e (gate_in v) gs ws fs) (p ∙ ap (λ (x : Gate). seen (called e x gs ws fs)) eg) er ev

-- AT ONE OF A HOUSE'S ARRAYS

-- what was handed back
pub returned-at : (v v' : List ℕ) (r : Reply) (h k : HandedAt) → seen_at h ≡ seen_at k → r ≡ reply_of h.0.answer h.0.wake → v' ≡ written h.0.answer h.0.gate v → (r, v', h.1, h.2, h.3, h.4, h.5) ≡ house_hosted v k
returned-at v v' r h k p er ev = (λ i. (er i, ev i, h.1, h.2, h.3, h.4, h.5)) ∙ ap (house_hosted v) (seen-at_once h k p)

-- the same of a call on the gate that the seven numbers are
pub asked-returned : (s : Site) (q : Ask) (v v' : List ℕ) (g : Gate) → g ≡ gate_in v → (gs ws fs cs ps : List ℕ) (r : Reply) (h : HandedAt) → seen_at h ≡ seen_at (asked s g gs ws fs cs ps q)
    → r ≡ reply_of h.0.answer h.0.wake → v' ≡ written h.0.answer h.0.gate v → (r, v', h.1, h.2, h.3, h.4, h.5) ≡ house_hosted v (asked s (gate_in v) gs ws fs cs ps q)
asked-returned s q v v' g eg gs ws fs cs ps r h p er ev =
    returned-at v v' r h (asked s (gate_in v) gs ws fs cs ps q) (p ∙ ap (λ (x : Gate). seen_at (asked s x gs ws fs cs ps q)) eg) er ev
