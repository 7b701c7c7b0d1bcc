-- Each block that the walk gives is the next 32 numbers, and what is left behind the blocks is the rest.
use Prim.Native.Nat.{ℕ, ◌-◌, ◌*◌, ◌/◌, ◌%◌, ◌<◌}
use mathlib.Core.Path.{◌≡◌, sym, ap, ◌∙◌}
use mathlib.Core.Bool.{Bool, true, false, ◌&&◌}
use native.Mathlib.Omega.{arith}
use lib.ListN.{length, take, drop}
use borrow.Author.Rules.{rules}
use Rattle.std.specs.Prelude.{IfSome, IsSomeAnd}
use Rattle.std.proofs.lemmas.Option.{IfSome_then}
use Rattle.std.proofs.iter.runs.Made.{chains}
use Rattle.lists.specs.Words.{all}
use Rattle.unused.proofs.Blocks.{none, split_none, blocks_pass, block_fails, item_passes, item_fails}
use Rattle.unused.proofs.is_blank.Goals as goal

pub returns-then-all : goal.returns-then-all
returns-then-all c =
    let xs = c.args.part.now in
    let p = c.if-all.ensures.runs.0 in
    let run = (simp (c.if-all.ensures.runs.1, c.chunks_exact-blocks.ensures.size, c.chunks_exact-blocks.ensures.rest) at (c.chunks_exact-blocks.ensures.runs p)) p.seen (omega arith) in
    let passed : (k : ℕ) → IfSome (p.at k) (λ x. all none x.now ≡ true) = search (rules, chains) in
    let long : p.len ≡ length xs / 32 = search (rules, chains) in
    let blocks : all none (take (length xs / 32 * 32) xs) ≡ true =
    blocks_pass 32 (length xs / 32) xs
    (λ k l.
    item_passes (p.at k) _ (take 32 (drop (k * 32) xs)) (p.reads k c.args.part (omega (arith, long))) (passed k)
    (IfSome_then (p.at k) (run.2 k) (λ x q. q.2.0)))
    in
    let behind : length xs - length xs % 32 ≡ length xs / 32 * 32 = omega arith in
    let rest = c.remainder-rest.ensures ∙ c.chunks_exact-blocks.ensures.remainder ∙ ap (λ (m : ℕ). drop m xs) behind in
    c.is_zero.ensures ∙ ap (all none) rest
    ∙ sym (split_none (length xs / 32 * 32) xs ∙ ap (λ (b : Bool). b && all none (drop (length xs / 32 * 32) xs)) blocks)

pub returns-else-all : goal.returns-else-all
returns-else-all c =
    let xs = c.args.part.now in
    let p = c.if-all.ensures.runs.0 in
    let run = (simp (c.if-all.ensures.runs.1, c.chunks_exact-blocks.ensures.size, c.chunks_exact-blocks.ensures.rest) at (c.chunks_exact-blocks.ensures.runs p)) p.seen (omega arith) in
    let failed : (k : ℕ) × (k < p.len) × IsSomeAnd (p.at k) (λ x. all none x.now ≡ false) = search (rules, chains) in
    c.if-all.false
    ∙ sym (block_fails 32 xs (failed.0 * 32) (item_fails (p.at failed.0) (take 32 (drop (failed.0 * 32) xs)) failed.2 (IfSome_then (p.at failed.0) (run.2 failed.0) (λ x q. q.2.0))))
