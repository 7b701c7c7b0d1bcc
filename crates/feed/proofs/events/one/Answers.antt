use Prim.Native.Nat.{ℕ, ◌+◌, ◌-◌}
use mathlib.Core.Path.{◌≡◌, sym, ap, ◌∙◌}
use native.Mathlib.Omega.{arith}
use lib.ListN.{take, drop}
use Rattle.trace.specs.Event.{event_of}
use Rattle.trace.proofs.EventLaws.{event_take}
use Rattle.trace.proofs.Shown.{read-shown_once}
use Rattle.index.proofs.Laws.{stands-kept}
use Rattle.feed.proofs.Judging.{judged_by_lem}
use Rattle.feed.proofs.events.one.Goals as goal

pub judge-judged-requires : goal.judge-judged-requires
judge-judged-requires c = let p = c.requires in record {
  known = p.known;
  beside = p.beside;
}

pub put_line-next-requires : goal.put_line-next-requires
put_line-next-requires c = c.requires.at_in_bounds

pub returns : goal.returns
returns c =
    let a = c.args in
    let n : a.from + 14 - a.from ≡ 14 = omega arith in
    let x = c.read_event-event in
    let e = read-shown_once x.result _ x.ensures ∙ ap (λ (k : ℕ). event_of a.version (take k (drop a.from a.bytes.now))) n ∙ event_take a.version (drop a.from a.bytes.now) in
    let j = c.judge-judged in
    let g = c.gone_on-gone in
    let l = c.put_line-next in
    let q = sym (stands-kept a.index.now j.new.index j.new.waiting j.result.answer j.auto.index) ∙ g.ensures.by_index j.new.waiting in record {
      gone_bound = (g.ensures.upper_bound.0, λ l. omega (arith, g.ensures.upper_bound.1 l, j.auto.index));
      judged = rw (sym q) (judged_by_lem a.gate a.guests.now a.waiting.now a.flight.now _ _ e a.number a.at l.result a.out.now _ j.result _ _ _ j.ensures.leaves j.ensures.known_2 l.ensures.put l.ensures.upper_bound);
      beside_2 = rw (sym q) j.ensures.beside_2;
    }
