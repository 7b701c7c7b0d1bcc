use Rattle.std.proofs.Common.{◌≡◌, ◌+◌, ◌*◌, ◌∙◌, refl, ap, eqb}
use Rattle.lists.specs.Stores.{stores}
use Rattle.lists.specs.Lines.{whether}
use Rattle.table.specs.Columns.{GUEST, COST, waiting_at}
use Rattle.moves.specs.Moves.{last_past}
use Rattle.drops.specs.Lower.{lower-next, past_fits, past_next}
use Rattle.drops.proofs.lower.Goals as goal

pub loop-i-init : goal.loop-i-init
loop-i-init c = (unfold stores in refl, refl)

pub past-after-requires : goal.past-after-requires
past-after-requires c =
    let s = c.loop-i in
    let a = c.args in
    let f = past_fits a.guest a.fall.by a.waiting.now s.waiting s.i s.invariant.0 (c.requires.2 s.i c.loop-i-test.true) c.lowered-q.result c.lowered-q.ensures in
    (f.0, f.1, c.requires.1)

pub loop-i-preserved : goal.loop-i-preserved
loop-i-preserved c =
    let s = c.loop-i in
    let a = c.args in
    let l = c.lowered-q in
    let kept = s.invariant.0 in
    let past : c.past-after.result ≡ whether (eqb (waiting_at s.waiting s.i GUEST) a.guest) (l.result + waiting_at s.waiting s.i COST * a.fall.spacing) (last_past a.guest a.fall.by a.fall.spacing a.fall.next a.waiting.now s.i) =
    c.past-after.ensures ∙ ap (whether (eqb (waiting_at s.waiting s.i GUEST) a.guest) (l.result + waiting_at s.waiting s.i COST * a.fall.spacing)) s.invariant.1
    in (
      lower-next a.guest a.fall.by a.waiting.now s.waiting s.i kept l.result l.ensures,
      past_next a.guest a.fall.by a.waiting.now s.waiting s.i kept a.fall.spacing a.fall.next c.past-after.result l.result l.ensures past,
    )
