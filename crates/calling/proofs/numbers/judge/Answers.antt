use Rattle.calling.proofs.Returns.{uncounted_bad, short_bad, sound_asks, unsound_bad, sound-good}
use mathlib.Core.Bool.{not}
use mathlib.Core.Path.{ap}
use Rattle.calling.proofs.numbers.judge.Goals as goal

pub returns-then-not-is_countable : goal.returns-then-not-is_countable
returns-then-not-is_countable c =
    uncounted_bad c.args.gate c.args.guests.now c.args.waiting.now c.args.flight.now _ c.is_countable.ensures (ap not c.if-not-is_countable.true)

pub returns-then-is_short : goal.returns-then-is_short
returns-then-is_short c =
    short_bad c.args.gate c.args.guests.now c.args.waiting.now c.args.flight.now _ c.is_short.ensures c.if-is_short.true

pub is_sound-requires : goal.is_sound-requires
is_sound-requires c =
    sound_asks c.args.gate c.args.guests.now c.args.waiting.now c.args.flight.now _ c.is_countable.ensures (ap not c.if-not-is_countable.false) _ c.is_short.ensures c.if-is_short.false

pub returns-then-not-is_sound : goal.returns-then-not-is_sound
returns-then-not-is_sound c =
    unsound_bad c.args.gate c.args.guests.now c.args.waiting.now c.args.flight.now _ c.is_countable.ensures (ap not c.if-not-is_countable.false) _ c.is_short.ensures c.if-is_short.false _ c.is_sound.ensures (ap not c.if-not-is_sound.true)

pub returns : goal.returns
returns c =
    sound-good c.args.gate c.args.guests.now c.args.waiting.now c.args.flight.now _ c.is_countable.ensures (ap not c.if-not-is_countable.false) _ c.is_short.ensures c.if-is_short.false _ c.is_sound.ensures (ap not c.if-not-is_sound.false)
