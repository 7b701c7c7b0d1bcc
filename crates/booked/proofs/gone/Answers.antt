-- `gone` meets its contract: the note that is read and struck is the one that was found. Assumes nothing.
use Rattle.std.proofs.Common.{◌≡◌, ℕ, ◌<◌, ◌≤◌, Option, None, Some, IsSome, sym, ap, ◌∙◌, arith, rules}
use Rattle.std.specs.Option.{unwrap_or}
use mathlib.Core.Path.{subst}
use Rattle.tally.specs.Columns.{SINCE, note_at}
use Rattle.tally.specs.Notes.{struck_at, sent_for}
use Rattle.booked.specs.Turns.{ahead_in, wait_in}
use Rattle.booked.proofs.gone.Goals as goal

-- a place before the end was found
some_inside : (o : Option ℕ) (n k : ℕ) → unwrap_or o n ≡ k → k < n → IsSome o
some_inside None n k e h = absurd (omega (arith, e, h))
some_inside (Some p) n k e h = search rules

-- and it is that of the note
found_at : (o : Option ℕ) (p n k : ℕ) → o ≡ Some p → unwrap_or o n ≡ k → p ≡ k
found_at o p n k e h = ap (λ x. unwrap_or x n) (sym e) ∙ h

pub unwrap-place-requires : goal.unwrap-place-requires
unwrap-place-requires c = some_inside c.find.result _ _ c.find.ensures.place c.requires.inside

pub overflow_sub-time : goal.overflow_sub-time
overflow_sub-time c =
    subst (λ (p : ℕ). note_at c.args.book.now p SINCE ≤ c.args.gate.time) (sym (found_at _ _ _ _ c.unwrap-place.ensures c.find.ensures.place)) c.requires.past

pub returns : goal.returns
returns c =
    let e = found_at _ _ _ _ c.unwrap-place.ensures c.find.ensures.place in
    record {
      book_after = c.strike.ensures ∙ ap (λ (p : ℕ). struck_at p c.args.gate.waiting c.args.book.now) e;
      figures_after = c.sent.ensures ∙ ap (λ (p : ℕ). sent_for c.args.phase c.args.guest (ahead_in c.args.gate c.args.book.now p) (wait_in c.args.gate c.args.book.now p) c.args.figures.now) e;
    }
