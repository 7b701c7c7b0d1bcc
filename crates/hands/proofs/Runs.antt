-- The demands through C, over the gate's seven numbers and the three tables as a host holds them: each refusal number exactly, a run of calls is a run
-- of steps of document 01, order of acceptance, demand 3, what a limit is worth, and tables that stay sound. What is written over the seven numbers reads back as that
-- gate, so the calls through C are those of crate gate. Assumes nothing.
use Rattle.std.specs.Prelude.{Option}
use Prim.Native.Nat.{ℕ}
use mathlib.Core.Path.{◌≡◌, refl, sym, ap, ◌∙◌}
use mathlib.Core.Bool.{Bool, true, false, not, ◌&&◌, false≢true}
use mathlib.Core.List.{List, [], ◌∷◌, ◌++◌, map}
use mathlib.Core.Logic.Iff
use mathlib.Core.Logic.{◌↔◌}
use native.Mathlib.Omega.{arith}
use lib.ListN.{length, get_or}
use Rattle.lists.specs.Words.{if◌then◌else◌, all}
use Rattle.rules.specs.Answers.{Printed, shown, taken}
use Rattle.rules.specs.Order.{waits, left}
use Rattle.rules.specs.Refused.{Case, RefusedExactly, call_cases, open_cases}
use Rattle.rules.specs.Run.{fresh, after, answers}
use Rattle.rules.specs.Waking.{wakes}
use Rattle.turns.specs.TurnAt.{TurnKept}
use Rattle.rules.proofs.Trials.{X}
use Rattle.rules.specs.declared.Event.{Event}
use Rattle.rules.specs.declared.Gate.{Gate}
use Rattle.rules.specs.declared.Phase.TheVariants.{Reservation, Weight}
use Rattle.rules.specs.declared.Answer.{Answer}
use Rattle.rules.specs.declared.Answer.TheVariants.{Nothing, Sent, Refused}
use Rattle.worth.specs.Worth.{Worth}
use Rattle.gate.specs.Promise.{numbers, called, opened, settings_in, table_in, short_in, sound_in, open_short_in, HandedIn}
use Rattle.gate.specs.Calls.{Host, holds, call, held, replies, wakings, firm, narrow, took, finds, free_replies}
use Rattle.gate.proofs.Lending.{numbers-lawful}
use Rattle.gate.proofs.Runs.{calls_run}
use Rattle.gate.proofs.Opened.{opened-firm}
use Rattle.gate.proofs.Order.{calls_in_order}
use Rattle.gate.proofs.Demand3.{calls_demand_3_places}
use Rattle.gate.proofs.Worth.{calls_worth}
use Rattle.gate.proofs.Refusing.{refusal_keeps, called_exactly, open_exactly}
use Rattle.gate.specs.Replies.{four_of, fifth_of, four, reply_of}
use Rattle.hands.specs.Host.{gate_in, gate_over, written, hosted}
use Rattle.hands.specs.Calls.{Lent, inside, shown_by, through, kept, held_by, fours, fifths, Refuses, Takes, takes, free_fours}

-- THE SEVEN NUMBERS

-- what is written over seven numbers is seven numbers, and reads back
seven_back : (g : Gate) (v : List ℕ) → length v ≡ 7 → (gate_in (gate_over g v) ≡ g) × (length (gate_over g v) ≡ 7)
seven_back g [] l = absurd (omega (arith, l))
seven_back g (a ∷ []) l = absurd (omega (arith, l))
seven_back g (a ∷ b ∷ []) l = absurd (omega (arith, l))
seven_back g (a ∷ b ∷ c ∷ []) l = absurd (omega (arith, l))
seven_back g (a ∷ b ∷ c ∷ d ∷ []) l = absurd (omega (arith, l))
seven_back g (a ∷ b ∷ c ∷ d ∷ e ∷ []) l = absurd (omega (arith, l))
seven_back g (a ∷ b ∷ c ∷ d ∷ e ∷ f ∷ []) l = absurd (omega (arith, l))
seven_back g (a ∷ b ∷ c ∷ d ∷ e ∷ f ∷ r ∷ v) l = (refl, l)

-- What is written over the gate's numbers reads back as that gate.
pub gate-back : (g : Gate) (v : List ℕ) → length v ≡ 7 → gate_in (gate_over g v) ≡ g
gate-back g v l = (seven_back g v l).0

-- and it is seven numbers
pub seven_over : (g : Gate) (v : List ℕ) → length v ≡ 7 → length (gate_over g v) ≡ 7
seven_over g v l = (seven_back g v l).1

-- they stay seven
seven_stay : (a : Answer) (g : Gate) (v : List ℕ) → length v ≡ 7 → length (written a g v) ≡ 7
seven_stay Nothing g v l = (seven_back g v l).1
seven_stay (Sent p n i) g v l = (seven_back g v l).1
seven_stay (Refused r) g v l = l

-- ONE CALL

module _ (h : Lent) (seven : length h.seven ≡ 7) (e : Event) where
  abbrev back : HandedIn numbers
  back = called e (gate_in h.seven) h.guests h.waiting h.flight

  -- the seven numbers after the call are its gate
  gate-after : (a : Answer) → back.0.answer ≡ a → gate_in (written a back.0.gate h.seven) ≡ back.0.gate
  gate-after Nothing p = gate-back back.0.gate h.seven seven
  gate-after (Sent q n i) p = gate-back back.0.gate h.seven seven
  gate-after (Refused r) p = sym (ap (λ (c : HandedIn numbers). c.0.gate) (refusal_keeps numbers e (gate_in h.seven) h.guests h.waiting h.flight r p))

  -- so a host in C holds after a call what a host over numbers holds
  pub call_back : inside (kept (through e h)) ≡ holds numbers (call numbers e (inside h))
  call_back =
      let p = gate-after back.0.answer refl in
      λ i. record { gate = p i; guests = back.1; waiting = back.2; flight = back.3 }

  still_seven : length (kept (through e h)).seven ≡ 7
  still_seven = seven_stay back.0.answer back.0.gate h.seven seven

-- A RUN

-- so it does after a run of calls
held_back : (es : List Event) (h : Lent) → length h.seven ≡ 7 → inside (held_by h es) ≡ held numbers (inside h) es
unfolding held_by held
held_back [] h seven = refl
held_back (e ∷ es) h seven = held_back es (kept (through e h)) (still_seven h seven e) ∙ ap (λ (u : Host numbers). held numbers u es) (call_back h seven e)

-- and every answer has the four numbers of the answer there
fours-back : (es : List Event) (h : Lent) → length h.seven ≡ 7 → fours h es ≡ map four_of (replies numbers (inside h) es)
unfolding fours replies
fours-back [] h seven = refl
fours-back (e ∷ es) h seven =
    ap (four (through e h).0 ∷◌) (fours-back es (kept (through e h)) (still_seven h seven e) ∙ ap (λ (u : Host numbers). map four_of (replies numbers u es)) (call_back h seven e))

-- and the fifth of the time to wake there
fifths-back : (es : List Event) (h : Lent) → length h.seven ≡ 7 → fifths h es ≡ map fifth_of (wakings numbers (inside h) es)
unfolding fifths wakings
fifths-back [] h seven = refl
fifths-back (e ∷ es) h seven =
    ap ((through e h).0.wake ∷◌) (fifths-back es (kept (through e h)) (still_seven h seven e) ∙ ap (λ (u : Host numbers). map fifth_of (wakings numbers u es)) (call_back h seven e))

-- what a run of calls through C does: it answers as the run of steps, carries the same times to wake, leaves its table, and leaves seven numbers and
-- tables that are long enough and sound
pub record ThroughRuns (h : Lent) (es : List Event) : Type 0 where
  pub answered : fours h es ≡ map four_of (answers (shown_by h) es)
  pub woken : fifths h es ≡ map fifth_of (wakes (shown_by h) es)
  pub leaves : shown_by (held_by h es) ≡ after (shown_by h) es
  pub still : firm numbers (inside (held_by h es)) ≡ true

-- From seven numbers and tables that are long enough and sound, whatever the events.
pub through-run : (es : List Event) (h : Lent) → length h.seven ≡ 7 → firm numbers (inside h) ≡ true → all narrow es ≡ true → ThroughRuns h es
through-run es h seven f n =
    let r = calls_run numbers numbers-lawful es (inside h) f n in
    let b = held_back es h seven in
    record {
      answered = fours-back es h seven ∙ ap (map four_of) r.answered;
      woken = fifths-back es h seven ∙ ap (map fifth_of) r.woken;
      leaves = ap (λ (u : Host numbers). table_in numbers u.gate u.guests u.waiting u.flight) b ∙ r.left;
      still = ap (firm numbers) b ∙ r.still;
    }

-- ORDER

-- Of each guest, over any run of calls through C: what waited and what was accepted is, in this order, what left and what still waits; the answers
-- are those whose four numbers the calls gave.
pub through_in_order : (n : ℕ) (es : List Event) (h : Lent) → length h.seven ≡ 7
    → (got : List Answer) × (fours h es ≡ map four_of got) × (waits n (shown_by h) ++ took n es got ≡ left n got ++ waits n (shown_by (held_by h es)))
through_in_order n es h seven = (
  replies numbers (inside h) es,
  fours-back es h seven,
  calls_in_order numbers numbers-lawful n es (inside h)
      ∙ ap (λ (u : Host numbers). left n (replies numbers (inside h) es) ++ waits n (table_in numbers u.gate u.guests u.waiting u.flight)) (sym (held_back es h seven)),
)

-- DEMAND 3, by places

takes-taken : (a : Answer) (w : Option ℕ) → takes (reply_of a w) ≡ taken a
takes-taken Nothing w = refl
takes-taken (Sent Reservation g i) w = refl
takes-taken (Sent Weight g i) w = refl
takes-taken (Refused r) w = refl

-- the calls that are accepted and find a place free are those there
free_back : (es : List Event) (h : Lent) → length h.seven ≡ 7 → free_fours h es ≡ map four_of (free_replies numbers (inside h) es)
unfolding free_fours free_replies
free_back [] h seven = refl
free_back (e ∷ es) h seven =
    ap (λ (b : Bool). if b && finds e (gate_in h.seven) then four_of a ∷ free_fours u es else free_fours u es) (takes-taken a (back h seven e).0.wake)
    ∙ go (taken a && finds e (gate_in h.seven))
    (free_back es u (still_seven h seven e) ∙ ap (λ (k : Host numbers). map four_of (free_replies numbers k es)) (call_back h seven e))
  where
    a : Answer
    a = (back h seven e).0.answer

    u : Lent
    u = kept (through e h)

    later : List Answer
    later = free_replies numbers (holds numbers (call numbers e (inside h))) es

    go : (b : Bool) → free_fours u es ≡ map four_of later → (if b then four_of a ∷ free_fours u es else free_fours u es) ≡ map four_of (if b then a ∷ later else later)
    go true p = ap (four_of a ∷◌) p
    go false p = p

-- Demand 3 under the gate's rule for limits, of "the accepted events that find a place free at the array"; the answers are those whose four numbers
-- the calls gave.
pub through_demand_3 : (h : Lent) (es : List Event) → length h.seven ≡ 7 → firm numbers (inside h) ≡ true → all narrow es ≡ true → (i : ℕ)
    → (got : List Answer) × (free_fours h es ≡ map four_of got) × TurnKept (shown_by h) i got
through_demand_3 h es seven f n i = (free_replies numbers (inside h) es, free_back es h seven, calls_demand_3_places numbers numbers-lawful (inside h) es f n i)

-- WHAT A LIMIT IS WORTH

-- Document 02, K11, of the events and their answers; the answers are those whose four numbers the calls gave.
pub through_worth : (h : Lent) (es : List Event) → length h.seven ≡ 7 → firm numbers (inside h) ≡ true → all narrow es ≡ true
    → (got : List Answer) × (fours h es ≡ map four_of got) × Worth (shown_by h) es got
through_worth h es seven f n = (replies numbers (inside h) es, fours-back es h seven, calls_worth numbers numbers-lawful (inside h) es f n)

-- REFUSED EXACTLY

-- the numbers of an answer say that it is a refusal with a number just where the paper shows it so
refuses_is : (a : Answer) (w : Option ℕ) (n : ℕ) → Refuses (reply_of a w) n ↔ (shown a ≡ X n)
refuses_is Nothing w n = (λ p. absurd (omega (arith, p.0)), λ p. absurd (omega (arith, ap Printed.letter p)))
refuses_is (Sent Reservation g i) w n = (λ p. absurd (omega (arith, p.0)), λ p. absurd (omega (arith, ap Printed.letter p)))
refuses_is (Sent Weight g i) w n = (λ p. absurd (omega (arith, p.0)), λ p. absurd (omega (arith, ap Printed.letter p)))
refuses_is (Refused r) w n = (λ p. ap X p.1, λ p. (refl, ap (λ (q : Printed). get_or q.values 0 0) p))

pub takes_is : (a : Answer) (w : Option ℕ) → Takes (reply_of a w) ↔ (taken a ≡ true)
takes_is Nothing w = (λ p. refl, λ p k. omega (arith, k))
takes_is (Sent Reservation g i) w = (λ p. refl, λ p k. omega (arith, k))
takes_is (Sent Weight g i) w = (λ p. refl, λ p k. omega (arith, k))
takes_is (Refused r) w = (λ p. absurd (p refl), λ p. absurd (false≢true p))

-- what is refused exactly is so through C
told : {cs : List Case} (a : Answer) (w : Option ℕ) → RefusedExactly cs (λ n. shown a ≡ X n) (taken a ≡ true) → RefusedExactly cs (Refuses (reply_of a w)) (Takes (reply_of a w))
told a w x = record { number = λ n. Iff.trans (refuses_is a w n) (x.number n); no_number = Iff.trans (takes_is a w) x.no_number }

-- Each number of an arrival, a completion and a tick is given exactly where document 01 says.
pub through_exactly : (h : Lent) (e : Event)
    → RefusedExactly (call_cases (short_in numbers (gate_in h.seven) h.guests h.waiting h.flight) (not (sound_in numbers (gate_in h.seven) h.guests h.waiting h.flight)) (shown_by h) e) (Refuses (through e h).0) (Takes (through e h).0)
through_exactly h e = let x = called e (gate_in h.seven) h.guests h.waiting h.flight in told x.0.answer x.0.wake (called_exactly numbers numbers-lawful (gate_in h.seven) h.guests h.waiting h.flight e)

-- And of an opening.
pub through_open_exactly : (seven : List ℕ) (d n c rule : ℕ) (ss gs ws fs : List ℕ)
    → RefusedExactly (open_cases (open_short_in numbers d n c ss gs ws fs) d n c rule (settings_in ss n)) (Refuses (hosted seven (opened d n c rule ss gs ws fs)).0) (Takes (hosted seven (opened d n c rule ss gs ws fs)).0)
through_open_exactly seven d n c rule ss gs ws fs = told (opened d n c rule ss gs ws fs).0.answer (opened d n c rule ss gs ws fs).0.wake (open_exactly numbers d n c rule ss gs ws fs)

-- AN OPENING

-- What an accepted opening through C leaves: seven numbers and tables that are long enough and sound, and show a fresh table.
pub through-opened : (seven : List ℕ) → length seven ≡ 7 → (d n c rule : ℕ) (ss gs ws fs : List ℕ) → Takes (hosted seven (opened d n c rule ss gs ws fs)).0
    → (length (kept (hosted seven (opened d n c rule ss gs ws fs))).seven ≡ 7) × (firm numbers (inside (kept (hosted seven (opened d n c rule ss gs ws fs)))) ≡ true) × (shown_by (kept (hosted seven (opened d n c rule ss gs ws fs))) ≡ fresh d c rule (settings_in ss n))
through-opened seven l d n c rule ss gs ws fs t =
    let x = opened d n c rule ss gs ws fs in
    let k = opened-firm numbers numbers-lawful d n c rule ss gs ws fs ((takes_is x.0.answer x.0.wake).0 t) in
    let p = same x.0.answer ((takes_is x.0.answer x.0.wake).0 t) in (
      seven_stay x.0.answer x.0.gate seven l,
      ap (λ (g : Gate). firm numbers (record { gate = g; guests = x.1; waiting = x.2; flight = x.3 })) p ∙ k.0,
      ap (λ (g : Gate). table_in numbers g x.1 x.2 x.3) p ∙ k.1,
    )
  where
    same : (a : Answer) → taken a ≡ true → gate_in (written a (opened d n c rule ss gs ws fs).0.gate seven) ≡ (opened d n c rule ss gs ws fs).0.gate
    same Nothing t = gate-back (opened d n c rule ss gs ws fs).0.gate seven l
    same (Sent q m i) t = gate-back (opened d n c rule ss gs ws fs).0.gate seven l
    same (Refused why) t = absurd (false≢true t)
