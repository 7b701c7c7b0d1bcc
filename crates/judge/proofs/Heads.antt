-- The header line, and what follows it: what the functions over a whole trace know at their ends. Assumes nothing.
use Prim.Native.Nat.{ℕ, ◌≤◌}
use mathlib.Core.Path.{◌≡◌, sym, ap, ◌∙◌}
use mathlib.Core.Bool.{true, false}
use mathlib.Core.List.{List}
use native.Mathlib.Omega.{arith}
use lib.ListN.{length, drop, length-append}
use Rattle.lists.specs.Words.{if◌then◌else◌}
use Rattle.rules.specs.Tables.{Table}
use Rattle.rules.specs.Run.{fresh}
use Rattle.rules.specs.declared.Refusal.{Refusal}
use Rattle.rules.specs.declared.Answer.TheVariants.{Refused}
use Rattle.gate.specs.Replies.{four_of}
use Rattle.lines.specs.Line.{refusal_line, title_line}
use Rattle.trace.specs.Header.{body, settings_in, header_of, Header}
use Rattle.trace.specs.Answers.{opening}
use Rattle.trace.proofs.HeaderLaws.{opened}
use Rattle.judge.specs.Acceptable.{asked_from, asked_by, head_by, head_due}
use Rattle.judge.specs.Judging.{begins, wrong_at, ended, judged_from, judged_of}
use Rattle.judge.specs.declared.Judged.{Judged}
use Rattle.judge.proofs.Bytes.{part, part-rest, begins_is}
use Rattle.std.specs.Prelude.{Ok, Err}
use Rattle.trace.specs.declared.Opened.{Opened}

-- what begins with xs is at least as long
pub begins_long : (xs ls : List ℕ) → begins xs ls ≡ true → length xs ≤ length ls
begins_long xs ls e = omega (arith, ap length (begins_is xs ls e) ∙ length-append xs (drop (length xs) ls))

module _ (bs ls : List ℕ) where
  -- what is judged, by the header
  abbrev pub judged_by : Header → Judged
  judged_by h = if begins (head_by h) ls then judged_from 0 (opening bs) (asked_by h bs) (drop (length (head_by h)) ls) else wrong_at 1 (head_due h)

  pub by_header : (h : Header) → header_of bs ≡ h → judged_of bs ls ≡ judged_by h
  unfolding judged_of
  by_header h e = ap judged_by e

  -- A BAD HEADER

  module _ (why : Refusal) (e : header_of bs ≡ Err why) (r : Judged) where
    pub refused_wrong : begins (refusal_line why) ls ≡ false → r ≡ wrong_at 1 (four_of (Refused why)) → r ≡ judged_of bs ls
    refused_wrong h q = q ∙ sym (by_header (Err why) e ∙ rw h)

    pub refused_right : begins (refusal_line why) ls ≡ true → r ≡ ended 2 (drop (length (refusal_line why)) ls) → r ≡ judged_of bs ls
    unfolding judged_from
    refused_right h q = q ∙ sym (by_header (Err why) e ∙ rw h)

  -- A GOOD ONE

  module _ (h : Opened) (e : header_of bs ≡ Ok h) (r : Judged) where
    pub opened_wrong : begins title_line ls ≡ false → r ≡ wrong_at 1 (0, 0, 0, 0) → r ≡ judged_of bs ls
    opened_wrong x q = q ∙ sym (by_header (Ok h) e ∙ rw x)

    pub opened_right : begins title_line ls ≡ true → (t : Table) → t ≡ fresh h.depth h.capacity h.rule (settings_in bs) → (at : ℕ) → at ≡ body h.version h.guests
        → r ≡ judged_from 0 t (asked_from h.version (part at bs)) (drop (length title_line) ls) → r ≡ judged_of bs ls
    opened_right x t f at z q =
        let o = opened bs h e in
        let rest = drop (length title_line) ls in
        q
        ∙ (λ i. judged_from 0 t (asked_from h.version (part-rest at bs i)) rest)
        ∙ ap (λ (u : Table). judged_from 0 u (asked_from h.version (drop at bs)) rest) f
        ∙ ap (λ (k : ℕ). judged_from 0 (fresh h.depth h.capacity h.rule (settings_in bs)) (asked_from h.version (drop k bs)) rest) z
        ∙ (λ i. judged_from 0 (fresh (o.depth_is i) (o.capacity_is i) (o.rule_is i) (settings_in bs)) (asked_from (o.version_is i) (drop (body (o.version_is i) (o.guests_is i)) bs)) rest)
        ∙ sym (by_header (Ok h) e ∙ rw x)
