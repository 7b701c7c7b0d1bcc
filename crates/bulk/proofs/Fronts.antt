-- A batch on a waiting table that is lent with more places than its gate has is that on its front: it comes to the same, and what stands past them stays. Assumes nothing.
use Rattle.std.specs.Prelude.{Option}
use Prim.Native.Nat.{ℕ, ◌*◌, ◌≤◌}
use mathlib.Core.Path.{◌≡◌, refl, sym, ap, ◌∙◌}
use mathlib.Core.List.{List, ◌++◌}
use native.Mathlib.Omega.{arith}
use lib.ListN.{length, take, drop, take-append-drop}
use lib.Seq.{length-take-le, take_all, take-take}
use Rattle.rules.specs.declared.Event.{Event}
use Rattle.rules.specs.declared.Gate.{Gate}
use Rattle.rules.specs.declared.Outcome.{Outcome}
use Rattle.rules.specs.declared.Refusal.TheVariants.{BadEvent}
use Rattle.table.specs.Columns.{guest_wide, waiting_wide, flight_wide}
use Rattle.table.specs.Does.{refusing}
use Rattle.gate.specs.Promise.{numbers}
use Rattle.gate.specs.Calls.{Host}
use Rattle.gate.specs.Needs.{Beyond}
use Rattle.gate.proofs.Lending.{numbers-lawful}
use Rattle.batch.specs.Rows.{events_in, answers_over}
use Rattle.batch.specs.Promise.{host_of, held_after}
use Rattle.batch.specs.Turns.{Ran}
use Rattle.batch.proofs.Beyond.{set_to, held_beyond, Unread, held_unread}
use Rattle.rules.specs.declared.Event.{Event}

-- lists that are alike up to n and beyond
whole_alike : (n : ℕ) (xs ys : List ℕ) → take n xs ≡ take n ys → drop n xs ≡ drop n ys → xs ≡ ys
whole_alike n xs ys p q = sym (take-append-drop n xs) ∙ (λ i. p i ++ q i) ∙ take-append-drop n ys

module _ (es bs : List ℕ) (g : Gate) (gs ws fs : List ℕ) (room : g.setup.capacity * waiting_wide ≤ length ws) where
  abbrev size : ℕ
  size = g.setup.capacity * waiting_wide

  abbrev part : Host numbers
  part = host_of numbers g gs (take size ws) fs

  abbrev all : Host numbers
  all = host_of numbers g gs ws fs

  pub front_ran : (g' : Gate) (gs' vs fs' bs' : List ℕ) → Ran es part bs (host_of numbers g' gs' vs fs') bs' → Ran es all bs (host_of numbers g' gs' (vs ++ drop size ws) fs') bs'
  front_ran g' gs' vs fs' bs' r =
      record {
        hold = ap (λ (h : Host numbers). host_of numbers h.gate h.guests (h.waiting ++ drop size ws) h.flight) r.hold
            ∙ (λ i. host_of numbers (same.gate i) (guests i) (waiting i) (flight i));
        answers = r.answers ∙ ap (λ (os : List Outcome). answers_over os bs) same.outcome;
      }
    where
      rs : List (Option Event)
      rs = events_in es

      same : Unread numbers numbers-lawful g.guests g.setup.capacity g.setup.depth rs part all
      same = held_unread numbers numbers-lawful g.guests g.setup.capacity g.setup.depth rs part all refl (set_to g)
          (record { guests = refl; waiting = take-take size size ws (omega arith); flight = refl })

      -- what stands past the places needed is what stood there, after the one as after the other
      past : (xs : List ℕ)
          → let h = held_after numbers (host_of numbers g gs xs fs) rs in
          Beyond numbers g.guests g.setup.capacity g.setup.depth gs xs fs (refusing BadEvent g, h.guests, h.waiting, h.flight)
      past xs = held_beyond numbers numbers-lawful g.guests g.setup.capacity g.setup.depth rs (host_of numbers g gs xs fs) (refusing BadEvent g) (set_to g)

      guests : (held_after numbers part rs).guests ≡ (held_after numbers all rs).guests
      guests = whole_alike (g.guests * guest_wide) _ _ same.needed.guests ((past (take size ws)).guests ∙ sym (past ws).guests)

      flight : (held_after numbers part rs).flight ≡ (held_after numbers all rs).flight
      flight = whole_alike (g.setup.depth * flight_wide) _ _ same.needed.flight ((past (take size ws)).flight ∙ sym (past ws).flight)

      waiting : (held_after numbers part rs).waiting ++ drop size ws ≡ (held_after numbers all rs).waiting
      waiting =
          let long : length (held_after numbers part rs).waiting ≤ size = omega (arith, (past (take size ws)).waiting-length, length-take-le size ws room) in
          (λ i. (sym (take_all size (held_after numbers part rs).waiting long) ∙ same.needed.waiting) i ++ sym (past ws).waiting i)
          ∙ take-append-drop size (held_after numbers all rs).waiting
