-- Before row `k` the index is that of the first `k` rows.
use Rattle.std.proofs.Common.{◌≡◌, ℕ, List, refl, sym, ap, ◌∙◌, arith, length, length-append, length-drop, length-take-le, get_or}
use Rattle.std.proofs.Math.ListN.{get_or-append, get_or-replicate}
use Rattle.index.specs.Index.{NEXTS}
use Rattle.index.proofs.Linked.{indexed_none}
use Rattle.index.proofs.build.Goals as goal

pub slice_bounds-fill-end-2 : goal.slice_bounds-fill-end-2
slice_bounds-fill-end-2 c = sym (length-take-le _ c.args.index.now (omega arith))

pub loop-k-init : goal.loop-k-init
loop-k-init c =
    let ix = c.args.index.now in
    let front = c.fill.new.self in
    let even : length front ≡ NEXTS = c.fill.ensures.len ∙ length-take-le _ ix (omega arith) in
    indexed_none c.args.waiting.now _ (simp (length-append, length-drop) (omega (arith, even)))
    (λ j h. get_or-append front _ 0 j (omega (arith, even, h)) ∙ ap (λ (xs : List ℕ). get_or xs j 0) (c.fill.ensures.after (λ y e. e)) ∙ get_or-replicate _ j 0 0 (omega (arith, c.fill.ensures.len, even, h)))

pub loop-k-preserved : goal.loop-k-preserved
loop-k-preserved c =
    let ws = c.args.waiting.now in
    c.link.ensures ws ws c.loop-k.invariant (record { same = λ k h. refl; own = refl })
