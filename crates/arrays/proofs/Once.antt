-- `once`: any two outcomes that the promise of a call at an array admits are equal: the answer, the time to wake, the gate, every number of the three tables, of the
-- counters and of the phases. Assumes nothing.
use Prim.Native.Nat.{ℕ}
use mathlib.Core.Path.{◌≡◌, sym, ap, ◌∙◌}
use mathlib.Core.List.{List}
use Rattle.rules.specs.declared.Gate.{Gate}
use Rattle.table.specs.View.{outcome_of}
use Rattle.gate.proofs.Once.{shown_once, hour_once}
use Rattle.arrays.specs.declared.Site.{Site}
use Rattle.arrays.specs.declared.Ask.{Ask}
use Rattle.arrays.specs.Promise.{HandedAt, SeenAt, seen_at, asked, begun}

-- two outcomes of which a caller sees the same are equal
pub seen-at_once : (h k : HandedAt) → seen_at h ≡ seen_at k → h ≡ k
seen-at_once h k e =
    let a = shown_once h.0.answer k.0.answer (ap (λ (s : SeenAt). s.1) e) in
    let w = hour_once h.0.wake k.0.wake (ap (λ (s : SeenAt). s.2) e) in
    λ i. (outcome_of (e i).0 (a i) (w i), (e i).3, (e i).4, (e i).5, (e i).6, (e i).7)

module _ (h k : HandedAt) (s : Site) (gs ws fs cs ps : List ℕ) where
  -- of an arrival, a completion and a tick
  pub asked_once : (g : Gate) (q : Ask) → seen_at h ≡ seen_at (asked s g gs ws fs cs ps q) → seen_at k ≡ seen_at (asked s g gs ws fs cs ps q) → h ≡ k
  asked_once g q x y = seen-at_once h k (x ∙ sym y)

  -- of an opening
  pub begun_once : (d n c rule : ℕ) (ss : List ℕ) → seen_at h ≡ seen_at (begun s d n c rule ss gs ws fs cs ps) → seen_at k ≡ seen_at (begun s d n c rule ss gs ws fs cs ps) → h ≡ k
  begun_once d n c rule ss x y = seen-at_once h k (x ∙ sym y)
