-- `ready_at` meets its contract: the earlier of two tags, or the only one that counts. Assumes nothing.
use Rattle.wakes.specs.Ready.{ready_limited, ready_reserved, ready_unreserved}
use Rattle.wakes.proofs.ready_at.Goals as goal

pub returns-then-limit-tag : goal.returns-then-limit-tag
returns-then-limit-tag c = ready_limited _ _ _ c.if-limit-tag.true

pub returns-then-guests-guest-gt0 : goal.returns-then-guests-guest-gt0
returns-then-guests-guest-gt0 c = ready_reserved _ _ _ c.if-limit-tag.false c.if-guests-guest-gt0.true

pub returns-else-guests-guest-gt0 : goal.returns-else-guests-guest-gt0
returns-else-guests-guest-gt0 c = ready_unreserved _ _ _ c.if-guests-guest-gt0.false
