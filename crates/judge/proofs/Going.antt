-- All that asks for a line, one after the other: what the functions over a whole trace know at their ends. Assumes nothing.
use Prim.Native.Nat.{ℕ, suc, ◌+◌, ◌-◌, ◌*◌, ◌≤◌, ◌<◌}
use mathlib.Core.Path.{◌≡◌, refl, sym, ap, ◌∙◌, subst}
use mathlib.Core.Bool.{Bool, true, false}
use mathlib.Core.List.{List, [], ◌∷◌, ◌++◌, map}
use native.Mathlib.Omega.{arith}
use lib.ListN.{length, drop, length-append, length-drop}
use lib.Seq.{drop-drop}
use Rattle.lists.specs.Words.{if◌then◌else◌}
use Rattle.rules.specs.Tables.{Table}
use Rattle.rules.specs.Choice.{Result}
use Rattle.rules.specs.Events.{enter}
use Rattle.rules.specs.Refusals.{Verdict, accept, refuse, verdict}
use Rattle.rules.specs.declared.Gate.{Gate}
use Rattle.rules.specs.declared.Phase.TheVariants.{Reservation, Weight}
use Rattle.rules.specs.declared.Refusal.TheVariants.{EventCut}
use Rattle.rules.specs.declared.Answer.{Answer}
use Rattle.rules.specs.declared.Answer.TheVariants.{Refused}
use Rattle.rules.proofs.SameSettings.{enter-settings}
use Rattle.table.specs.View.{table_of, Known}
use Rattle.gate.specs.Replies.{four_of}
use Rattle.lines.specs.Line.{line_of}
use Rattle.trace.specs.Event.{event_of, events_of, whole}
use Rattle.trace.specs.Printed.{answered}
use Rattle.judge.specs.Acceptable.{MayChoose, full, reservation, weight, nothing, Asked, entire, cut_off, refusing, MayDecide, May, cut_asked, asked_from}
use Rattle.judge.specs.Judging.{begins, Heard, follows, wrong, told, heard, wrong_at, accepted, ended, onward, judged_from}
use Rattle.judge.specs.Hearing.{size_if, Followed, Hears}
use Rattle.judge.specs.declared.Judged.{Judged}
use Rattle.judge.specs.declared.Said.{Said}
use Rattle.judge.proofs.Bytes.{part, part-rest, begins_is}
use Rattle.judge.proofs.Tied.{first_of}
use Rattle.judge.proofs.Ties.{size_none, size-some}
use Rattle.judge.proofs.Sent.{sent_settings}
use Rattle.judge.proofs.Follows.{heard_may}
use Rattle.std.specs.Prelude.{Some, None}

-- THE END

pub ended-none : (n : ℕ) (ls : List ℕ) → length ls ≡ 0 → accepted ≡ ended n ls
ended-none n [] h = refl
ended-none n (b ∷ ls) h = absurd (omega arith)

pub ended_some : (n : ℕ) (ls : List ℕ) → (length ls ≡ 0 → ⊥) → wrong_at n (4, 0, 0, 0) ≡ ended n ls
ended_some n [] h = absurd (h refl)
ended_some n (b ∷ ls) h = refl

-- BEHIND THE WHOLE EVENTS

module _ (n : ℕ) (t : Table) (ls : List ℕ) where
  pub rest-none : (rest : List ℕ) → length rest ≡ 0 → (r : Judged) → r ≡ ended (n + 2) ls → r ≡ judged_from n t (cut_asked rest) ls
  unfolding judged_from
  rest-none [] h r e = e
  rest-none (b ∷ bs) h r e = absurd (omega arith)

  abbrev cut_line : List ℕ
  cut_line = line_of (n + 1) (Refused EventCut)

  -- the line of the cut event
  cut-heard : (c : Bool) → begins cut_line ls ≡ c → heard (n + 1) ls t cut_off ≡ (if c then follows (refusing t EventCut) else wrong)
  unfolding heard told
  cut-heard c e = rw e

  module _ (rest : List ℕ) (some : length rest ≡ 0 → ⊥) (r : Judged) where
    -- is wrong
    pub rest_wrong : None ≡ size_if (begins cut_line ls) cut_line → r ≡ wrong_at (n + 2) (four_of (Refused EventCut)) → r ≡ judged_from n t (cut_asked rest) ls
    unfolding judged_from
    rest_wrong size e = go rest some
      where
        go : (bs : List ℕ) → (length bs ≡ 0 → ⊥) → r ≡ judged_from n t (cut_asked bs) ls
        go [] s = absurd (s refl)
        go (b ∷ bs) s = rw (cut-heard false (size_none (begins cut_line ls) cut_line size)) e

    -- or stands, and nothing may stand behind it
    pub rest_right : (long : ℕ) → Some long ≡ size_if (begins cut_line ls) cut_line → r ≡ ended (n + 3) (part long ls) → r ≡ judged_from n t (cut_asked rest) ls
    unfolding judged_from
    rest_right long size e = go rest some
      where
        stands : (begins cut_line ls ≡ true) × (long ≡ length cut_line)
        stands = size-some (begins cut_line ls) cut_line long size

        go : (bs : List ℕ) → (length bs ≡ 0 → ⊥) → r ≡ judged_from n t (cut_asked bs) ls
        go [] s = absurd (s refl)
        go (b ∷ bs) s = rw (cut-heard true stands.0) (e ∙ ap (ended (n + 3)) (part-rest long ls) ∙ ap (λ (k : ℕ). ended (n + 3) (drop k ls)) stands.1 ∙ ap (λ (k : ℕ). ended k (drop (length cut_line) ls)) (let z : n + 3 ≡ n + 1 + 2 = omega arith in z))

  -- what stands there is no longer than the lines
  pub rest-fits : (long : ℕ) → Some long ≡ size_if (begins cut_line ls) cut_line → long ≤ length ls
  rest-fits long size =
      let stands = size-some (begins cut_line ls) cut_line long size in
      omega (arith, stands.1, ap length (begins_is cut_line ls stands.0), length-append cut_line (drop (length cut_line) ls))

-- THE SETUP of the gate

-- a choice leaves it
choose_setup : (t : Table) (r : Result) → MayChoose t r → r.table.setup ≡ t.setup
choose_setup t r (full h e) = ap (λ (y : Result). y.table.setup) e
choose_setup t r (reservation i h m e) = ap (λ (y : Result). y.table.setup) e ∙ (sent_settings t i m.inside (first_of t.waiting i m.inside m.first) Reservation).setup
choose_setup t r (weight i h d m e) = ap (λ (y : Result). y.table.setup) e ∙ (sent_settings t i m.inside (first_of t.waiting i m.inside m.first) Weight).setup
choose_setup t r (nothing h d o e) = ap (λ (y : Result). y.table.setup) e

-- and so does whatever may stand
may_setup : (t : Table) (x : Asked) (r : Result) → May t x r → r.table.setup ≡ t.setup
may_setup t (entire (Some e)) r m = go (verdict t e) m
  where
    go : (v : Verdict) → MayDecide v t e r → r.table.setup ≡ t.setup
    go accept m = choose_setup (enter t e) r m ∙ (enter-settings t e).setup
    go (refuse why) m = ap (λ (y : Result). y.table.setup) m
may_setup t (entire None) r m = ap (λ (y : Result). y.table.setup) m
may_setup t cut_off r m = ap (λ (y : Result). y.table.setup) m

-- THE EVENTS, one after the other

-- what asks for a line from event i of n on, whose bytes begin at i * 14
abbrev pub asked_at : (version : ℕ) (bs : List ℕ) (n i : ℕ) → List Asked
asked_at v bs n i = map entire (events_of v (n - i) (drop (i * 14) bs)) ++ cut_asked (drop (n * 14) bs)

-- the loop of `judge_events` after i events: what is left to judge is what was to judge
pub record Reached (v : ℕ) (g₀ : Gate) (gs₀ ws₀ fs₀ bs ls : List ℕ) (n i : ℕ) (g : Gate) (gs ws fs : List ℕ) (at : ℕ) : Type 0 where
  pub known : Known g gs ws fs
  pub fits : at ≤ length ls
  pub judged : judged_from 0 (table_of g₀ gs₀ ws₀ fs₀) (asked_from v bs) ls ≡ judged_from i (table_of g gs ws fs) (asked_at v bs n i) (drop at ls)

-- the first event that is left
asked-next : (v : ℕ) (bs : List ℕ) (n i : ℕ) → i < n → asked_at v bs n i ≡ entire (event_of v (drop (i * 14) bs)) ∷ asked_at v bs n (i + 1)
unfolding events_of
asked-next v bs n i h =
    let e : n - i ≡ suc (n - (i + 1)) = omega arith in
    let d : drop 14 (drop (i * 14) bs) ≡ drop ((i + 1) * 14) bs = drop-drop 14 (i * 14) bs ∙ ap (λ (k : ℕ). drop k bs) (let z : i * 14 + 14 ≡ (i + 1) * 14 = omega arith in z) in
    ap (λ (k : ℕ). map entire (events_of v k (drop (i * 14) bs)) ++ cut_asked (drop (n * 14) bs)) e
    ∙ ap (λ (l : List ℕ). entire (event_of v (drop (i * 14) bs)) ∷ (map entire (events_of v (n - (i + 1)) l) ++ cut_asked (drop (n * 14) bs))) d

module _ (v : ℕ) (g₀ : Gate) (gs₀ ws₀ fs₀ bs ls : List ℕ) where
  abbrev n : ℕ
  n = whole bs

  pub reached_none : Known g₀ gs₀ ws₀ fs₀ → Reached v g₀ gs₀ ws₀ fs₀ bs ls n 0 g₀ gs₀ ws₀ fs₀ 0
  reached_none k =
      let e : n ≡ n - 0 = omega arith in
      record { known = k; fits = omega arith; judged = ap (λ (m : ℕ). judged_from 0 (table_of g₀ gs₀ ws₀ fs₀) (map entire (events_of v m bs) ++ cut_asked (drop (n * 14) bs)) ls) e }

  module _ (i : ℕ) (h : i < n) (g : Gate) (gs ws fs : List ℕ) (at : ℕ) (r : Reached v g₀ gs₀ ws₀ fs₀ bs ls n i g gs ws fs at)
      (s : Said) (hs vs es : List ℕ)
      (lent : Hears (heard (i + 1) (part at ls) (table_of g gs ws fs) (entire (event_of v (drop (i * 14) bs)))) (answered (table_of g gs ws fs) (event_of v (drop (i * 14) bs))).answer (i + 1) s hs vs es) where
    abbrev t : Table
    t = table_of g gs ws fs

    abbrev x : Asked
    x = entire (event_of v (drop (i * 14) bs))

    k : Hears (heard (i + 1) (drop at ls) t x) (answered t (event_of v (drop (i * 14) bs))).answer (i + 1) s hs vs es
    k = subst (λ (l : List ℕ). Hears (heard (i + 1) l t x) (answered t (event_of v (drop (i * 14) bs))).answer (i + 1) s hs vs es) (part-rest at ls) lent

    -- by what was heard
    heard_by_lem : (y : Heard) → heard (i + 1) (drop at ls) t x ≡ y
        → judged_from 0 (table_of g₀ gs₀ ws₀ fs₀) (asked_from v bs) ls
        ≡ onward (λ q. judged_from (i + 1) q.table (asked_at v bs n (i + 1)) (drop (length (line_of (i + 1) q.answer)) (drop at ls))) (wrong_at (i + 2) (four_of (answered t (event_of v (drop (i * 14) bs))).answer)) y
    unfolding judged_from
    heard_by_lem y e =
        r.judged ∙ ap (λ (l : List Asked). judged_from i t l (drop at ls)) (asked-next v bs n i h)
        ∙ ap (onward (λ q. judged_from (i + 1) q.table (asked_at v bs n (i + 1)) (drop (length (line_of (i + 1) q.answer)) (drop at ls))) (wrong_at (i + 2) (four_of (answered t (event_of v (drop (i * 14) bs))).answer))) e

    -- the line is wrong
    pub reached_wrong : s.long ≡ None → (j : Judged) → j ≡ wrong_at (i + 2) (four_of s.answer) → j ≡ judged_from 0 (table_of g₀ gs₀ ws₀ fs₀) (asked_from v bs) ls
    reached_wrong z j e = e ∙ ap (λ (a : Answer). wrong_at (i + 2) (four_of a)) k.due ∙ sym (heard_by_lem wrong (k.errs z))

    -- or one more stands
    module _ (long : ℕ) (is : s.long ≡ Some long) where
      f : Followed (heard (i + 1) (drop at ls) t x) (i + 1) s.gate long hs vs es
      f = k.goes long is

      spoken : begins (line_of (i + 1) f.result.answer) (drop at ls) ≡ true
      spoken = (heard_may (i + 1) (drop at ls) t x f.result f.says).1

      -- the gate has the places that it had
      pub reached_setup : s.gate.setup ≡ g.setup
      reached_setup = ap Table.setup f.sends.shows ∙ may_setup t x f.result (heard_may (i + 1) (drop at ls) t x f.result f.says).0

      pub reached_fits : at + long ≤ length ls
      reached_fits =
          let line = line_of (i + 1) f.result.answer in
          omega (arith, r.fits, f.size, length-drop at ls, ap length (begins_is line (drop at ls) spoken) ∙ length-append line (drop (length line) (drop at ls)))

      pub reached_next : Reached v g₀ gs₀ ws₀ fs₀ bs ls n (i + 1) s.gate hs vs es (at + long)
      reached_next =
          record {
            known = f.sends.known;
            fits = reached_fits;
            judged = heard_by_lem (follows f.result) f.says
                ∙ ap (λ (u : Table). judged_from (i + 1) u (asked_at v bs n (i + 1)) (drop (length (line_of (i + 1) f.result.answer)) (drop at ls))) (sym f.sends.shows)
                ∙ ap (λ (m : ℕ). judged_from (i + 1) (table_of s.gate hs vs es) (asked_at v bs n (i + 1)) (drop m (drop at ls))) (sym f.size)
                ∙ ap (judged_from (i + 1) (table_of s.gate hs vs es) (asked_at v bs n (i + 1))) (drop-drop long at ls);
          }

  -- all events are judged
  pub reached_all : (i : ℕ) → i ≡ n → (g : Gate) (gs ws fs : List ℕ) (at : ℕ) → Reached v g₀ gs₀ ws₀ fs₀ bs ls n i g gs ws fs at → (j : Judged)
      → ((u : Table) → j ≡ judged_from n u (cut_asked (part (n * 14) bs)) (part at ls)) → j ≡ judged_from 0 (table_of g₀ gs₀ ws₀ fs₀) (asked_from v bs) ls
  unfolding events_of
  reached_all i e g gs ws fs at r j q =
      let none : n - n ≡ 0 = omega arith in
      q (table_of g gs ws fs)
      ∙ (λ i. judged_from n (table_of g gs ws fs) (cut_asked (part-rest (n * 14) bs i)) (part-rest at ls i))
      ∙ ap (λ (m : ℕ). judged_from n (table_of g gs ws fs) (map entire (events_of v m (drop (n * 14) bs)) ++ cut_asked (drop (n * 14) bs)) (drop at ls)) (sym none)
      ∙ ap (λ (m : ℕ). judged_from m (table_of g gs ws fs) (asked_at v bs n m) (drop at ls)) (sym e) ∙ sym r.judged
