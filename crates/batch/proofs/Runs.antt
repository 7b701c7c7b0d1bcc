-- Events one by one, for every way in which guests are lent: runs join, one event more, and as many answers as events. Assumes nothing.
use Rattle.std.specs.Prelude.{Option}
use Prim.Native.Nat.{ℕ, suc, ◌*◌}
use mathlib.Core.Path.{◌≡◌, refl, sym, ap, ◌∙◌}
use mathlib.Core.List.{List, [], ◌∷◌, ◌++◌, append_assoc, append-nil}
use native.Mathlib.Omega.{arith}
use lib.ListN.{length, length-append}
use Rattle.lists.specs.Tab.{length-tab}
use Rattle.rules.specs.declared.Event.{Event}
use Rattle.rules.specs.declared.Outcome.{Outcome}
use Rattle.gate.specs.Promise.{Lending}
use Rattle.gate.specs.Calls.{Host, holds}
use Rattle.batch.specs.Rows.{count_of, event_at, events_in, answer_wide, line_of, lines_of}
use Rattle.batch.specs.Promise.{one, held_after, outcomes}
use Rattle.rules.specs.declared.Event.{Event}

-- ROWS OF ANSWERS

-- five numbers each
pub length-lines : (os : List Outcome) → length (lines_of os) ≡ length os * answer_wide
unfolding lines_of
length-lines [] = refl
length-lines (o ∷ os) =
    let i = length-lines os in
    rw (length-append (line_of o) (lines_of os)) (omega arith)

-- two lists of them, one behind the other
pub lines-append : (os ps : List Outcome) → lines_of (os ++ ps) ≡ lines_of os ++ lines_of ps
unfolding lines_of
lines-append [] ps = refl
lines-append (o ∷ os) ps =
    ap (λ (l : List ℕ). line_of o ++ l) (lines-append os ps)
    ∙ sym (append_assoc (line_of o) (lines_of os) (lines_of ps))

-- one more
pub lines_snoc : (os : List Outcome) (o : Outcome) → lines_of (os ++ (o ∷ [])) ≡ lines_of os ++ line_of o
unfolding lines_of
lines_snoc os o = lines-append os (o ∷ []) ∙ ap (λ (l : List ℕ). lines_of os ++ l) (append-nil (line_of o))

-- as many events as whole rows
pub length-events : (es : List ℕ) → length (events_in es) ≡ count_of es
unfolding events_in
length-events es = length-tab (count_of es) (event_at es)

-- EVENTS

module _ (v : Lending) where
  -- two runs are one
  pub held-append : (rs ss : List (Option Event)) (h : Host v) → held_after v h (rs ++ ss) ≡ held_after v (held_after v h rs) ss
  unfolding held_after
  held-append [] ss h = refl
  held-append (r ∷ rs) ss h = held-append rs ss (holds v (one v r h))

  pub outcomes-append : (rs ss : List (Option Event)) (h : Host v) → outcomes v h (rs ++ ss) ≡ outcomes v h rs ++ outcomes v (held_after v h rs) ss
  unfolding held_after outcomes
  outcomes-append [] ss h = refl
  outcomes-append (r ∷ rs) ss h = ap ((one v r h).0 ∷◌) (outcomes-append rs ss (holds v (one v r h)))

  -- one event more
  pub held_snoc : (rs : List (Option Event)) (r : Option Event) (h : Host v) → held_after v h (rs ++ (r ∷ [])) ≡ holds v (one v r (held_after v h rs))
  unfolding held_after
  held_snoc rs r h = held-append rs (r ∷ []) h

  pub outcomes_snoc : (rs : List (Option Event)) (r : Option Event) (h : Host v) → outcomes v h (rs ++ (r ∷ [])) ≡ outcomes v h rs ++ ((one v r (held_after v h rs)).0 ∷ [])
  unfolding outcomes
  outcomes_snoc rs r h = outcomes-append rs (r ∷ []) h

  -- as many as there are events
  pub length-outcomes : (rs : List (Option Event)) (h : Host v) → length (outcomes v h rs) ≡ length rs
  unfolding outcomes
  length-outcomes [] h = refl
  length-outcomes (r ∷ rs) h = ap suc (length-outcomes rs (holds v (one v r h)))
