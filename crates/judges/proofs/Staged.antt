-- The lines of a trace, judged on a table that stands in a window: what the loop of `judge_beside` keeps, turn by turn. Assumes nothing.
use Prim.Native.Nat.{ℕ, ◌+◌, ◌*◌, ◌≤◌, ◌<◌}
use Rattle.std.specs.Prelude.{Option, Some, None, IsSome}
use mathlib.Core.Path.{◌≡◌, refl, sym, ap, ◌∙◌, subst}
use mathlib.Core.List.{List}
use lib.ListN.{length, drop}
use Rattle.rules.specs.declared.Setup.{Setup}
use Rattle.rules.specs.declared.Gate.{Gate}
use Rattle.table.specs.Columns.{waiting_wide}
use Rattle.table.specs.View.{table_of, Known}
use Rattle.index.specs.Index.{Beside, stands, shifted, Snug}
use Rattle.index.proofs.Laws.{stands-kept}
use Rattle.windows.specs.Window.{Window}
use Rattle.windows.proofs.Staged.{Staged, staged_next}
use Rattle.gate.specs.Replies.{four_of}
use Rattle.trace.specs.Event.{event_of, whole}
use Rattle.trace.specs.Printed.{answered}
use Rattle.judge.specs.Acceptable.{entire, asked_from}
use Rattle.judge.specs.Judging.{heard, wrong_at, judged_from}
use Rattle.judge.specs.Hearing.{Hears}
use Rattle.judge.specs.declared.Judged.{Judged}
use Rattle.judge.specs.declared.Said.{Said}
use Rattle.judge.proofs.Bytes.{part}
use Rattle.judge.proofs.Going.{Reached, reached_none, reached_wrong, reached_setup, reached_fits, reached_next}

-- after i events the table stands in the window from row `start` on, with its index beside it
abbrev pub Stage : (v : ℕ) (g₀ : Gate) (gs₀ ws₀ fs₀ bs ls : List ℕ) (size start : ℕ) (window : List ℕ) (i : ℕ) (g : Gate) (gs fs : List ℕ) (at : ℕ) (ix : List ℕ) → Type 0
Stage v g₀ gs₀ ws₀ fs₀ bs ls size start window i g gs fs at ix = Staged size start window ix g (λ ws. Reached v g₀ gs₀ ws₀ fs₀ bs ls (whole bs) i g gs ws fs at)

module _ (v : ℕ) (g₀ : Gate) (gs₀ ws₀ fs₀ bs ls : List ℕ) (size : ℕ) where
  -- before them
  pub stage_none : (window ix : List ℕ) → Window size 0 window ws₀ → Known g₀ gs₀ ws₀ fs₀ → Beside ws₀ ix g₀.waiting → Snug g₀ ws₀ ix
      → Stage v g₀ gs₀ ws₀ fs₀ bs ls size 0 window 0 g₀ gs₀ fs₀ 0 ix
  stage_none window ix w k b s = record { table = ws₀; stands = w; beside = b; snug = s; holds = reached_none v g₀ gs₀ ws₀ fs₀ bs ls k }

  -- one event more was heard, on the table where it stands once there is room behind it
  module _ (start : ℕ) (window : List ℕ) (i : ℕ) (h : i < whole bs) (g : Gate) (gs fs : List ℕ) (at : ℕ) (ix : List ℕ)
      (s : Stage v g₀ gs₀ ws₀ fs₀ bs ls size start window i g gs fs at ix) (start' : ℕ) (window' hs es ix' : List ℕ) (r : Said)
      (o : (vs : List ℕ) × Window size start' window' vs
      × Hears (heard (i + 1) (part at ls) (table_of g gs s.table fs) (entire (event_of v (drop (i * 14) bs)))) (answered (table_of g gs s.table fs) (event_of v (drop (i * 14) bs))).answer (i + 1) r hs (stands ix r.answer vs) es
      × (IsSome r.long → Beside (stands ix r.answer vs) ix' r.gate.waiting)) where
    abbrev vs : List ℕ
    vs = stands ix r.answer o.0

    -- its line is wrong
    pub stage_wrong : r.long ≡ None → (j : Judged) → j ≡ wrong_at (i + 2) (four_of r.answer) → j ≡ judged_from 0 (table_of g₀ gs₀ ws₀ fs₀) (asked_from v bs) ls
    stage_wrong = reached_wrong v g₀ gs₀ ws₀ fs₀ bs ls i h g gs s.table fs at s.holds r hs vs es o.2

    -- or one more stands
    module _ (long : ℕ) (is : r.long ≡ Some long) where
      some : IsSome r.long
      some = subst (λ (x : Option ℕ). IsSome x) (sym is) refl

      pub stage_fits : at + long ≤ length ls
      stage_fits = reached_fits v g₀ gs₀ ws₀ fs₀ bs ls i h g gs s.table fs at s.holds r hs vs es o.2 long is

      pub stage_next : (gone : ℕ) → gone ≤ 1 → ((us : List ℕ) → stands ix' r.answer us ≡ shifted gone us) → length ix' ≡ length ix → (start' + 1) * waiting_wide + size ≤ length window'
          → Stage v g₀ gs₀ ws₀ fs₀ bs ls size (start' + gone) window' (i + 1) r.gate hs es (at + long) ix'
      stage_next gone few moved same room =
          let e : vs ≡ shifted gone o.0 = sym (stands-kept ix ix' o.0 r.answer same) ∙ moved o.0 in
          let h' = subst (λ (us : List ℕ). Hears (heard (i + 1) (part at ls) (table_of g gs s.table fs) (entire (event_of v (drop (i * 14) bs)))) (answered (table_of g gs s.table fs) (event_of v (drop (i * 14) bs))).answer (i + 1) r hs us es) e o.2 in
          staged_next s start' gone window' ix' o.0 r.gate (λ ws. Reached v g₀ gs₀ ws₀ fs₀ bs ls (whole bs) (i + 1) r.gate hs ws es (at + long)) o.1
          (subst (λ (us : List ℕ). Beside us ix' r.gate.waiting) e (o.3 some))
          (reached_next v g₀ gs₀ ws₀ fs₀ bs ls i h g gs s.table fs at s.holds r hs (shifted gone o.0) es h' long is)
          (ap Setup.capacity (reached_setup v g₀ gs₀ ws₀ fs₀ bs ls i h g gs s.table fs at s.holds r hs vs es o.2 long is))
          few (λ _. room) same
