-- `ready_first` meets its contract: each way out says why neither phase could send the row, or names it. Assumes nothing.
use native.Mathlib.Omega.{arith}
use Prim.Native.Nat.{ℕ, ◌+◌, ◌-◌, ◌<◌}
use mathlib.Core.Path.{◌≡◌, subst}
use mathlib.Core.List.{List}
use Rattle.table.specs.Columns.{RESERVATION, RTAG, LTAG, guest_at, waiting_at}
use Rattle.seeks.specs.Reads.{row_here}
use Rattle.heads.specs.Heads.{Barred}
use borrow.Author.Rules.{rules}
use Rattle.heads.proofs.ready_first.Goals as goal

-- the row before the number x is the one whose tags were read
barred : (gs ws : List ℕ) {g x j time : ℕ} → x ≡ j + 1 → time < waiting_at ws (x - 1) LTAG → (0 < guest_at gs g RESERVATION → time < waiting_at ws (x - 1) RTAG) → Barred gs ws g j time
barred gs ws {g} {x} {j} {time} f l r = let e : x - 1 ≡ j = omega (arith, f) in subst (λ (i : ℕ). Barred gs ws g i time) e (record { limited = l; undue = r })

pub overflow_cast-number : goal.overflow_cast-number
overflow_cast-number c = omega (arith, c.type_inv.index c.args.guest)

pub overflow_mul-at : goal.overflow_mul-at
overflow_mul-at c = omega (arith, (row_here (c.requires.by_index.3.first c.args.guest c.requires.guest_lt_most_guests.0) (omega (arith, c.if-number-eq0.false))).0)

pub bounds-queue-at : goal.bounds-queue-at
bounds-queue-at c = omega (arith, (row_here (c.requires.by_index.3.first c.args.guest c.requires.guest_lt_most_guests.0) (omega (arith, c.if-number-eq0.false))).0)

pub returns-then-queue-at-2 : goal.returns-then-queue-at-2
returns-then-queue-at-2 c = record {
  value = search rules;
  barred = λ e j f. barred c.args.queue.guests.now c.args.queue.waiting.now f c.if-queue-at.false (λ h. c.if-queue-at-2.true);
}

pub returns-then-queue-guest-eq0 : goal.returns-then-queue-guest-eq0
returns-then-queue-guest-eq0 c = record {
  value = search rules;
  barred = λ e j f. barred c.args.queue.guests.now c.args.queue.waiting.now f c.if-queue-at.false (λ h. absurd (omega (arith, h, c.if-queue-guest-eq0.true)));
}
