-- `untouched` of a batch: what stands beyond the places that the settings need is after any number of events as it was, and no event reads it. For every way in
-- which guests are lent, and whatever is handed in. Assumes nothing.
use Rattle.std.specs.Prelude.{Ok, Some, None, Option}
use Prim.Native.Nat.{ℕ}
use mathlib.Core.Path.{◌≡◌, refl, sym, ap, ◌∙◌, subst}
use mathlib.Core.List.{List, [], ◌∷◌}
use Rattle.rules.specs.Refusals.{Verdict, accept, refuse, judged}
use Rattle.rules.specs.declared.Event.{Event}
use Rattle.rules.specs.declared.Gate.{Gate}
use Rattle.rules.specs.declared.Outcome.{Outcome}
use Rattle.gate.specs.Promise.{Lending, handed_in, followed_in, judged_in, called_in}
use Rattle.gate.specs.Needs.{Beyond, Alike, Same}
use Rattle.gate.specs.Calls.{Host, holds}
use Rattle.gate.proofs.Lending.{Lawful}
use Rattle.gate.proofs.Beyond.{chosen_sized, called_beyond}
use Rattle.gate.proofs.Unread.{called_unread}
use Rattle.batch.specs.Rows.{events_in, answers_over}
use Rattle.batch.specs.Promise.{host_of, one, held_after, outcomes, batch_tests, batched_by, batched_in}

-- the gate is set to n guests, capacity c and depth d
pub record SetTo (n c d : ℕ) (g : Gate) : Type 0 where
  pub guests : g.guests ≡ n
  pub capacity : g.setup.capacity ≡ c
  pub depth : g.setup.depth ≡ d

-- to what it is set to
pub set_to : (g : Gate) → SetTo g.guests g.setup.capacity g.setup.depth g
set_to g = record { guests = refl; capacity = refl; depth = refl }

-- what holds of its settings holds of these numbers
of_these : (P : ℕ → ℕ → ℕ → Type 0) {n c d : ℕ} (g : Gate) → SetTo n c d g → P g.guests g.setup.capacity g.setup.depth → P n c d
of_these P {n} {c} {d} g s p =
    subst (P n c) s.depth (subst (λ (b : ℕ). P n b g.setup.depth) s.capacity (subst (λ (a : ℕ). P a g.setup.capacity g.setup.depth) s.guests p))

module _ (v : Lending) (lawful : Lawful v) (n c d : ℕ) where
  -- ONE EVENT

  -- a call leaves the settings
  called-set : (e : Event) (g : Gate) (gs : List v.Cell) (ws fs : List ℕ) → SetTo n c d g → SetTo n c d (called_in v e g gs ws fs).0.gate
  unfolding called_in handed_in
  called-set e g gs ws fs s = go (judged_in v e g gs ws fs)
    where
      go : (w : Verdict) → SetTo n c d (followed_in v w e g gs ws fs).0.gate
      go accept = let z = chosen_sized v lawful g gs ws fs e in record { guests = z.guests ∙ s.guests; capacity = z.capacity ∙ s.capacity; depth = z.depth ∙ s.depth }
      go (refuse r) = s

  pub one_set : (r : Option Event) (h : Host v) → SetTo n c d h.gate → SetTo n c d (one v r h).0.gate
  one_set (Some e) h s = called-set e h.gate h.guests h.waiting h.flight s
  one_set None h s = s

  -- and what stands beyond
  pub one_beyond : (r : Option Event) (h : Host v) → SetTo n c d h.gate → Beyond v n c d h.guests h.waiting h.flight (one v r h)
  one_beyond (Some e) h s =
      of_these (λ i j k. Beyond v i j k h.guests h.waiting h.flight (one v (Some e) h)) h.gate s (called_beyond v lawful e h.gate h.guests h.waiting h.flight)
  one_beyond None h s = record { guest-length = refl; waiting-length = refl; flight_length = refl; guests = refl; waiting = refl; flight = refl }

  -- which it does not read
  one_unread : (r : Option Event) (h k : Host v) → k.gate ≡ h.gate → SetTo n c d h.gate → Alike v n c d h.guests h.waiting h.flight k.guests k.waiting k.flight
      → Same v n c d (one v r h) (one v r k)
  one_unread (Some e) h k p s a =
      subst (λ (g : Gate). Same v n c d (one v (Some e) h) (called_in v e g k.guests k.waiting k.flight)) (sym p)
      (of_these
      (λ x y z. Alike v x y z h.guests h.waiting h.flight k.guests k.waiting k.flight → Same v x y z (one v (Some e) h) (called_in v e h.gate k.guests k.waiting k.flight))
      h.gate s (called_unread v lawful e h.gate h.guests h.waiting h.flight k.guests k.waiting k.flight) a)
  one_unread None h k p s a = record { outcome = λ i. (one v None (host_of v (sym p i) h.guests h.waiting h.flight)).0; needed = a }

  -- ANY NUMBER OF EVENTS

  -- what they leave, beside any outcome: `Beyond` speaks of the tables alone
  pub held_beyond : (rs : List (Option Event)) (h : Host v) (o : Outcome) → SetTo n c d h.gate
      → Beyond v n c d h.guests h.waiting h.flight (o, (held_after v h rs).guests, (held_after v h rs).waiting, (held_after v h rs).flight)
  unfolding held_after
  held_beyond [] h o s = record { guest-length = refl; waiting-length = refl; flight_length = refl; guests = refl; waiting = refl; flight = refl }
  held_beyond (r ∷ rs) h o s =
      let a = one_beyond r h s in
      let b = held_beyond rs (holds v (one v r h)) o (one_set r h s) in
      record {
        guest-length = b.guest-length ∙ a.guest-length;
        waiting-length = b.waiting-length ∙ a.waiting-length;
        flight_length = b.flight_length ∙ a.flight_length;
        guests = b.guests ∙ a.guests;
        waiting = b.waiting ∙ a.waiting;
        flight = b.flight ∙ a.flight;
      }

  -- two hosts that differ at most in what stands beyond: the events come to the same, and leave the same gate and the same at every place needed
  pub record Unread (rs : List (Option Event)) (h k : Host v) : Type 0 where
    pub outcome : outcomes v h rs ≡ outcomes v k rs
    pub gate : (held_after v h rs).gate ≡ (held_after v k rs).gate
    pub needed : Alike v n c d (held_after v h rs).guests (held_after v h rs).waiting (held_after v h rs).flight (held_after v k rs).guests (held_after v k rs).waiting (held_after v k rs).flight

  pub held_unread : (rs : List (Option Event)) (h k : Host v) → k.gate ≡ h.gate → SetTo n c d h.gate
      → Alike v n c d h.guests h.waiting h.flight k.guests k.waiting k.flight → Unread rs h k
  unfolding held_after outcomes
  held_unread [] h k p s a = record { outcome = refl; gate = sym p; needed = a }
  held_unread (r ∷ rs) h k p s a =
      let same = one_unread r h k p s a in
      let rest = held_unread rs (holds v (one v r h)) (holds v (one v r k)) (ap Outcome.gate (sym same.outcome)) (one_set r h s) same.needed in
      record { outcome = λ i. same.outcome i ∷ rest.outcome i; gate = rest.gate; needed = rest.needed }

-- A BATCH

module _ (v : Lending) (lawful : Lawful v) (es : List ℕ) (g : Gate) (gs : List v.Cell) (ws fs bs : List ℕ) where
  abbrev h : Host v
  h = host_of v g gs ws fs

  -- "Places beyond what the settings need are neither read nor changed": a batch leaves them as they were, whatever is found of it; beside any outcome
  pub batch_beyond : (o : Outcome) → let b = batched_in v es g gs ws fs bs in Beyond v g.guests g.setup.capacity g.setup.depth gs ws fs (o, b.1, b.2, b.3)
  unfolding batched_in
  batch_beyond o = go (judged (batch_tests es bs))
    where
      go : (w : Verdict) → let b = batched_by v w es h bs in Beyond v g.guests g.setup.capacity g.setup.depth gs ws fs (o, b.1, b.2, b.3)
      go accept = held_beyond v lawful g.guests g.setup.capacity g.setup.depth (events_in es) h o (set_to g)
      go (refuse r) = record { guest-length = refl; waiting-length = refl; flight_length = refl; guests = refl; waiting = refl; flight = refl }

  -- and tables that differ at most there give the same gate, the same number found, the same answers and the same at every place needed
  pub batch_unread : (hs : List v.Cell) (vs ds : List ℕ) → Alike v g.guests g.setup.capacity g.setup.depth gs ws fs hs vs ds
      → let b = batched_in v es g gs ws fs bs in
      let k = batched_in v es g hs vs ds bs in
      (b.0 ≡ k.0) × (b.4 ≡ k.4) × Alike v g.guests g.setup.capacity g.setup.depth b.1 b.2 b.3 k.1 k.2 k.3
  unfolding batched_in
  batch_unread hs vs ds a = go (judged (batch_tests es bs))
    where
      go : (w : Verdict)
          → let b = batched_by v w es h bs in
          let k = batched_by v w es (host_of v g hs vs ds) bs in
          (b.0 ≡ k.0) × (b.4 ≡ k.4) × Alike v g.guests g.setup.capacity g.setup.depth b.1 b.2 b.3 k.1 k.2 k.3
      go accept =
          let u = held_unread v lawful g.guests g.setup.capacity g.setup.depth (events_in es) h (host_of v g hs vs ds) refl (set_to g) a in
          (λ i. record { gate = u.gate i; found = Ok tt }, λ i. answers_over (u.outcome i) bs, u.needed)
      go (refuse r) = (refl, refl, a)
