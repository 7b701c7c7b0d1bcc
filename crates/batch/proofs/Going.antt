-- What the loop over the rows keeps, turn by turn: what was found of the tables stays true, and the answers so far stand in their rows. Assumes nothing.
use Rattle.std.specs.Prelude.{Result, Some, None, Option}
use Prim.Native.Nat.{ℕ, suc, ◌+◌, ◌*◌, ◌≤◌}
use mathlib.Core.Path.{◌≡◌, refl, sym, ap, ◌∙◌, subst}
use mathlib.Core.List.{List, [], ◌∷◌, ◌++◌}
use native.Mathlib.Omega.{arith}
use native.Mathlib.Numerals.{add-one}
use native.Mathlib.Nat.{zero-add}
use lib.ListN.{length, drop, set}
use lib.Seq.{sets, sets-eq}
use Rattle.lists.specs.Tab.{tab, tab_snoc, length-tab}
use Rattle.lists.specs.Sets.{sets_append}
use Rattle.rules.specs.declared.Event.{Event}
use Rattle.rules.specs.declared.Gate.{Gate}
use Rattle.rules.specs.declared.Outcome.{Outcome}
use Rattle.rules.specs.declared.Refusal.TheVariants.{BadEvent}
use Rattle.table.specs.Does.{refusing}
use Rattle.gate.specs.Promise.{numbers, HandedIn, seen, called}
use Rattle.gate.specs.Calls.{Host, holds}
use Rattle.gate.specs.Judges.{Judges}
use Rattle.gate.specs.Replies.{reply_of}
use Rattle.gate.specs.declared.Reply.{Reply}
use Rattle.gate.proofs.Once.{seen_once}
use Rattle.batch.specs.Rows.{count_of, event_at, events_in, answer_wide, row_of, line_of, lines_of}
use Rattle.batch.specs.Promise.{host_of, one, held_after, outcomes}
use Rattle.batch.specs.Turns.{turn, Ran}
use Rattle.batch.proofs.Runs.{length-lines, lines_snoc, held_snoc, outcomes_snoc, length-outcomes}
use Rattle.rules.specs.declared.Refusal.{Refusal}

-- ONE EVENT

module _ (g : Gate) (gs ws fs : List ℕ) (r : Option Event) where
  abbrev here : Host numbers
  here = host_of numbers g gs ws fs

  -- an event is a call
  pub good-one : (e : Event) → r ≡ Some e → (h : HandedIn numbers) → seen h ≡ seen (called e g gs ws fs) → h ≡ one numbers r here
  good-one e p h q = seen_once h (called e g gs ws fs) q ∙ ap (λ (x : Option Event). one numbers x here) (sym p)

  -- what is none is refused 14
  pub bad_one : r ≡ None → (o : Outcome) → o ≡ refusing BadEvent g → ◌≡◌ {A = HandedIn numbers} (o, gs, ws, fs) (one numbers r here)
  bad_one p o q = ap (λ (x : Outcome). (x, gs, ws, fs)) q ∙ ap (λ (x : Option Event). one numbers x here) (sym p)

  -- which leaves what was found
  pub bad_judges : (j : Result Unit Refusal) → Judges g gs ws fs j → (o : Outcome) → o ≡ refusing BadEvent g → Judges o.gate gs ws fs j
  bad_judges j found o q = subst (λ (x : Outcome). Judges x.gate gs ws fs j) (sym q) found

-- an answer put in its row
pub answer_put : (bs : List ℕ) (at : ℕ) (o : Outcome) (r : Reply) → r ≡ reply_of o.answer o.wake
    → set (set (set (set (set bs at r.kind) (at + 1) r.guest) (at + 2) r.id) (at + 3) r.refusal) (at + 4) r.wake ≡ sets bs at (line_of o)
answer_put bs at o r p =
    let a : at + 1 ≡ suc at = omega arith in
    let b : at + 2 ≡ suc (suc at) = omega arith in
    let c : at + 3 ≡ suc (suc (suc at)) = omega arith in
    let d : at + 4 ≡ suc (suc (suc (suc at))) = omega arith in
    (λ i. set (set (set (set (set bs at r.kind) (a i) r.guest) (b i) r.id) (c i) r.refusal) (d i) r.wake)
    ∙ ap (λ (x : Reply). sets bs at (row_of x)) p

-- one turn: the event of a row is done, and its answer stands in the row
pub turned : (r : Option Event) (k : ℕ) (h : Host numbers) (bs : List ℕ) (x : Option Event) → x ≡ r → (d : HandedIn numbers) → d ≡ one numbers x h → (bs' : List ℕ)
    → bs' ≡ sets bs (k * answer_wide) (line_of d.0)
    → ◌≡◌ {A = Host numbers × List ℕ} (host_of numbers d.0.gate d.1 d.2 d.3, bs') (turn r k h bs)
turned r k h bs x p d q bs' s =
    (λ i. (holds numbers (q i), (s ∙ ap (λ (y : HandedIn numbers). sets bs (k * answer_wide) (line_of y.0)) q) i))
    ∙ ap (λ (y : Option Event). turn y k h bs) p

-- ALL EVENTS

-- the loop after k events, from a host h₀ and answers bs₀
pub record Going (es : List ℕ) (found : Result Unit Refusal) (h₀ : Host numbers) (bs₀ : List ℕ) (k : ℕ) (g : Gate) (gs ws fs bs : List ℕ) : Type 0 where
  pub hold : host_of numbers g gs ws fs ≡ held_after numbers h₀ (tab k (event_at es))
  pub answers : bs ≡ sets bs₀ 0 (lines_of (outcomes numbers h₀ (tab k (event_at es))))
  pub judged : Judges g gs ws fs found

module _ (es : List ℕ) (found : Result Unit Refusal) (g₀ : Gate) (gs₀ ws₀ fs₀ bs₀ : List ℕ) where
  abbrev h₀ : Host numbers
  h₀ = host_of numbers g₀ gs₀ ws₀ fs₀

  -- before the first
  pub going_none : Judges g₀ gs₀ ws₀ fs₀ found → Going es found h₀ bs₀ 0 g₀ gs₀ ws₀ fs₀ bs₀
  unfolding held_after outcomes lines_of
  going_none j = record { hold = refl; answers = refl; judged = j }

  -- one more
  pub going_next : (k : ℕ) (g : Gate) (gs ws fs bs : List ℕ) → Going es found h₀ bs₀ k g gs ws fs bs
      → (g' : Gate) (gs' ws' fs' bs' : List ℕ)
      → ◌≡◌ {A = Host numbers × List ℕ} (host_of numbers g' gs' ws' fs', bs') (turn (event_at es k) k (host_of numbers g gs ws fs) bs)
      → Judges g' gs' ws' fs' found → Going es found h₀ bs₀ (k + 1) g' gs' ws' fs' bs'
  going_next k g gs ws fs bs w g' gs' ws' fs' bs' t j =
      let f = event_at es in
      let rs = tab k f in
      let u = held_after numbers h₀ rs in
      let os = outcomes numbers h₀ rs in
      let o = (one numbers (f k) u).0 in
      let n : length (lines_of os) ≡ k * answer_wide = length-lines os ∙ ap (◌* answer_wide) (length-outcomes numbers rs h₀ ∙ length-tab k f) in
      let m : k * answer_wide ≡ 0 + length (lines_of os) = sym (n) ∙ sym (zero-add (length (lines_of os))) in
      let more : tab (k + 1) f ≡ rs ++ (f k ∷ []) = ap (λ (i : ℕ). tab i f) (add-one k) ∙ tab_snoc k f in
      record {
        hold = ap (λ (x : Host numbers × List ℕ). x.0) t
            ∙ ap (λ (x : Host numbers). holds numbers (one numbers (f k) x)) w.hold
            ∙ sym (held_snoc numbers rs (f k) h₀)
            ∙ ap (held_after numbers h₀) (sym more);
        answers = ap (λ (x : Host numbers × List ℕ). x.1) t
            ∙ ap (λ (x : Host numbers). sets bs (k * answer_wide) (line_of (one numbers (f k) x).0)) w.hold
            ∙ ap (λ (x : List ℕ). sets x (k * answer_wide) (line_of o)) w.answers
            ∙ ap (λ (i : ℕ). sets (sets bs₀ 0 (lines_of os)) i (line_of o)) m
            ∙ sets_append bs₀ 0 (lines_of os) (line_of o)
            ∙ ap (sets bs₀ 0) (sym (lines_snoc os o))
            ∙ ap (λ (x : List Outcome). sets bs₀ 0 (lines_of x)) (sym (outcomes_snoc numbers rs (f k) h₀))
            ∙ ap (λ (x : List (Option Event)). sets bs₀ 0 (lines_of (outcomes numbers h₀ x))) (sym more);
        judged = j;
      }

  -- and after the last
  pub going_all : (k : ℕ) → k ≡ count_of es → count_of es * answer_wide ≤ length bs₀ → (g : Gate) (gs ws fs bs : List ℕ) → Going es found h₀ bs₀ k g gs ws fs bs
      → Ran es h₀ bs₀ (host_of numbers g gs ws fs) bs
  unfolding events_in
  going_all k e room g gs ws fs bs w =
      let rs = tab (count_of es) (event_at es) in
      let os = outcomes numbers h₀ rs in
      let n : length (lines_of os) ≡ count_of es * answer_wide = length-lines os ∙ ap (◌* answer_wide) (length-outcomes numbers rs h₀ ∙ length-tab (count_of es) (event_at es)) in
      record {
        hold = w.hold ∙ ap (λ (i : ℕ). held_after numbers h₀ (tab i (event_at es))) e;
        answers = w.answers
            ∙ ap (λ (i : ℕ). sets bs₀ 0 (lines_of (outcomes numbers h₀ (tab i (event_at es))))) e
            ∙ sets-eq (lines_of os) bs₀ 0 (omega arith)
            ∙ ap (λ (i : ℕ). lines_of os ++ drop i bs₀) (zero-add (length (lines_of os)));
      }
