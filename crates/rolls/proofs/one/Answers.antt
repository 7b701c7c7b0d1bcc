-- `one` meets its contract: a good event is the turn, a bad one leaves all as it stood. Assumes nothing.
use native.Mathlib.Omega.{arith}
use Prim.Native.Nat.{ℕ, ◌+◌, ◌-◌}
use mathlib.Core.Path.{◌≡◌, sym, ap, ◌∙◌}
use lib.ListN.{take, drop}
use Rattle.trace.specs.Event.{event_of}
use Rattle.trace.proofs.EventLaws.{event_take}
use Rattle.trace.proofs.Shown.{read-shown_once}
use Rattle.tally.specs.Kept.{page_of}
use Rattle.pages.specs.Sheet.{read}
use Rattle.rolls.proofs.Going.{firm-passed}
use Rattle.rolls.proofs.one.Goals as goal

pub turn-requires : goal.turn-requires
turn-requires c =
    let p = c.requires in record {
      known = p.firm.known;
      kept = p.firm.kept;
      number_bound = p.from_in_bounds.1;
      beside = p.beside;
    }

pub returns-in-Some : goal.returns-in-Some
returns-in-Some c =
    let a = c.args in
    let n : a.from + 14 - a.from ≡ 14 = omega arith in
    let x = c.read_event-event in
    let e = read-shown_once x.result _ x.ensures ∙ ap (λ (k : ℕ). event_of a.version (take k (drop a.from a.bytes.now))) n ∙ event_take a.version (drop a.from a.bytes.now) in
    let t = c.turn.ensures in record {
      gone_bound = t.gone_bound;
      figures_after = t.figures_after ∙ ap (read (page_of a.gate a.guests.now a.waiting.now a.flight.now a.book.now a.figures.now)) (sym c.in-Some.is ∙ e);
      firm_2 = record { known = t.known_2; kept = t.kept_2 };
      beside_2 = t.beside_2;
    }

pub returns-in-None : goal.returns-in-None
returns-in-None c =
    let a = c.args in
    let p = c.requires in
    let n : a.from + 14 - a.from ≡ 14 = omega arith in
    let x = c.read_event-event in
    let e = read-shown_once x.result _ x.ensures ∙ ap (λ (k : ℕ). event_of a.version (take k (drop a.from a.bytes.now))) n ∙ event_take a.version (drop a.from a.bytes.now) in record {
      gone_bound = (omega arith, λ l. absurd (omega (arith, l)));
      figures_after = ap (read (page_of a.gate a.guests.now a.waiting.now a.flight.now a.book.now a.figures.now)) (sym c.in-None.is ∙ e);
      firm_2 = firm-passed a.number a.gate _ _ _ _ _ p.firm;
      beside_2 = p.beside.0;
    }
