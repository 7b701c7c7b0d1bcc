use native.Mathlib.Omega.{arith}
use Rattle.opens.proofs.OpenReturns.{counts_bad, rule_bad, list_short, tables_short, settings_bad, opening-good, known_few}
use mathlib.Core.Bool.{not}
use mathlib.Core.Path.{ap}
use Rattle.opens.proofs.judge_opening.Goals as goal

pub returns-then-not-is_countable : goal.returns-then-not-is_countable
returns-then-not-is_countable c =
    counts_bad c.args.gate c.args.settings.now c.args.guests.now c.args.waiting.now c.args.flight.now _ c.is_countable.ensures (ap not c.if-not-is_countable.true)

pub returns-then-not-is_ruled : goal.returns-then-not-is_ruled
returns-then-not-is_ruled c =
    rule_bad c.args.gate c.args.settings.now c.args.guests.now c.args.waiting.now c.args.flight.now _ c.is_countable.ensures (ap not c.if-not-is_countable.false) _ c.is_ruled.ensures (ap not c.if-not-is_ruled.true)

pub overflow_mul-known : goal.overflow_mul-known
overflow_mul-known c = omega (arith, known_few c.args.gate _ c.is_countable.ensures (ap not c.if-not-is_countable.false))

pub returns-then-settings-known : goal.returns-then-settings-known
returns-then-settings-known c =
    list_short c.args.gate c.args.settings.now c.args.guests.now c.args.waiting.now c.args.flight.now _ c.is_countable.ensures (ap not c.if-not-is_countable.false) _ c.is_ruled.ensures (ap not c.if-not-is_ruled.false) c.if-settings-known.true

pub returns-then-is_short : goal.returns-then-is_short
returns-then-is_short c =
    tables_short c.args.gate c.args.settings.now c.args.guests.now c.args.waiting.now c.args.flight.now _ c.is_countable.ensures (ap not c.if-not-is_countable.false) _ c.is_ruled.ensures (ap not c.if-not-is_ruled.false) c.if-settings-known.false _ c.is_short.ensures c.if-is_short.true

pub all_settled_list-requires : goal.all_settled_list-requires
all_settled_list-requires c = omega (arith, c.if-settings-known.false)

pub returns-then-not-all_settled_list : goal.returns-then-not-all_settled_list
returns-then-not-all_settled_list c =
    settings_bad c.args.gate c.args.settings.now c.args.guests.now c.args.waiting.now c.args.flight.now _ c.is_countable.ensures (ap not c.if-not-is_countable.false) _ c.is_ruled.ensures (ap not c.if-not-is_ruled.false) c.if-settings-known.false _ c.is_short.ensures c.if-is_short.false _ c.all_settled_list.ensures (ap not c.if-not-all_settled_list.true)

pub returns : goal.returns
returns c =
    opening-good c.args.gate c.args.settings.now c.args.guests.now c.args.waiting.now c.args.flight.now _ c.is_countable.ensures (ap not c.if-not-is_countable.false) _ c.is_ruled.ensures (ap not c.if-not-is_ruled.false) c.if-settings-known.false _ c.is_short.ensures c.if-is_short.false _ c.all_settled_list.ensures (ap not c.if-not-all_settled_list.false)
