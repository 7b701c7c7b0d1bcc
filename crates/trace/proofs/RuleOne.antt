-- The rule for limits of a trace: every table that its events find has the rule that its header says; that of version 1 is rule 1, document 01's. Assumes
-- nothing.
use Prim.Native.Nat.{ℕ}
use mathlib.Core.Path.{◌≡◌, sym, ap, ◌∙◌, subst}
use mathlib.Core.List.{List}
use Rattle.rules.specs.Tables.{Table}
use Rattle.rules.specs.declared.Setup.{Setup}
use Rattle.rules.specs.Run.{fresh}
use Rattle.rules.proofs.SameSettings.{SameSettings, run-settings}
use Rattle.trace.specs.Header.{version_of, rule_in, rule_of}
use Rattle.trace.specs.Event.{events_of}
use Rattle.trace.specs.Answers.{event_bytes, opening, table_at}
use Rattle.trace.proofs.Runs.{run, table-run}

-- the table that event k finds
pub rule_kept : (bs : List ℕ) (k : ℕ) → (table_at bs k).setup.rule ≡ rule_of bs
unfolding fresh
rule_kept bs k =
    let es = events_of (version_of bs) k (event_bytes bs) in
    let same = subst (λ (u : Table). SameSettings u (opening bs)) (sym (table-run (opening bs) es)) (run-settings (run es) (opening bs)) in
    ap Setup.rule same.setup

-- of a trace of version 1, which cannot say a rule
pub rule_1 : (bs : List ℕ) → version_of bs ≡ 1 → (k : ℕ) → (table_at bs k).setup.rule ≡ 1
unfolding rule_in
rule_1 bs one k = rule_kept bs k ∙ ap (λ (v : ℕ). rule_in v bs) one
