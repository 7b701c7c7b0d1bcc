use Rattle.std.proofs.Common.{◌≡◌, ap, ◌∙◌, ℕ, length, ◌++◌, ◌+◌, ◌-◌, ◌*◌, take, drop, replicate, arith, rules}
use Rattle.std.proofs.lemmas.List.{length-replicate}
use Rattle.lists.specs.Sets.{sets_part}
use Rattle.lists.specs.Parts.{part_length}
use Rattle.counters.proofs.Clearing.{cleared_is}
use Rattle.counters.proofs.clear_all.Goals as goal

pub returns : goal.returns
returns c =
    let a = c.args in
    let from = a.array * a.guests * 2 in
    let to = from + a.guests * 2 in
    let cs = a.counters.now in
    let long = part_length from to cs (omega arith) (omega (arith, c.requires)) in
    let most : to - from ≡ a.guests * 2 = omega arith in
    let zeros : length (replicate {A = ℕ} (a.guests * 2) 0) ≡ a.guests * 2 = length-replicate (a.guests * 2) 0 in
    ap (λ l. take from cs ++ (l ++ drop (to - from) (drop from cs))) (c.fill.ensures.after (search rules) ∙ ap (λ n. replicate n 0) (long ∙ most))
    ∙ sets_part cs from (to - from) (replicate (a.guests * 2) 0) (omega (arith, zeros)) (omega (arith, zeros))
    ∙ cleared_is a.guests a.array a.guests cs
