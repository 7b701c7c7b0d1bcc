-- The choice is what document 01 says of it, and nothing else is: never another send, and none withheld. Assumes nothing.
use mathlib.Core.Path.{◌≡◌, refl, sym, subst}
use mathlib.Core.Bool.{Bool, true, false, not, ◌&&◌, ◌||◌, true≢false, false≢true}
use mathlib.Core.Logic.{◌↔◌}
use Prim.Native.Nat.{◌≤◌, ◌<◌}
use lib.Dec.{leb, eqb}
use lib.ListN.{length}
use borrow.Author.Tests.{ltb-true, ltb-false, lt-ltb, le-ltb, leb-true, le-leb, eqb-true, eq-eqb}
use Rattle.lists.specs.Words.{if◌then◌else◌}
use Rattle.lists.specs.WordsLaws.{both, join}
use Rattle.rules.specs.Tables.{Request, Table, reserved, limited, settings_of}
use Rattle.rules.specs.Choice.{Result, Pick, nobody, picked, least, due_at, open_at, passes_at, passes, due, open?, room, by_weight, by_reservation, choice}
use Rattle.rules.specs.Events.{Event, enter}
use Rattle.rules.specs.Refusals.{Verdict, accept, refuse, verdict, is_accept, accepted}
use Rattle.rules.specs.Run.{decided, step}
use Rattle.rules.specs.Chosen.{Open, Due, NoneIs, unsent, Chosen, full, reservation, weight, nothing}
use Rattle.rules.proofs.Places.{Says, least-place, least_at, least-none}

-- what the weight phase asks, as a test
pub open_means : (t : Table) (q : Request) → (open? t q ≡ true) ↔ Open t q
unfolding open_at
open_means t q = go (limited (settings_of t.guests q))
  where
    go : (b : Bool) → (not b || leb q.ltag t.time ≡ true) ↔ (b ≡ true → q.ltag ≤ t.time)
    go false = (λ h e. absurd (false≢true e), λ k. refl)
    go true = (λ h e. leb-true q.ltag t.time h, λ k. le-leb q.ltag t.time (k refl))

-- what the reservation phase asks, as a test
pub due_means : (t : Table) (q : Request) → (due t q ≡ true) ↔ Due t q
unfolding due_at passes_at
due_means t q = (to, back)
  where
    r : Bool
    r = reserved (settings_of t.guests q)

    by_rule : (b : Bool) → eqb t.setup.rule 2 ≡ b → (t.setup.rule ≡ 2 → Open t q) → (if b then open? t q else true) ≡ true
    by_rule true e k = (open_means t q).1 (k (eqb-true t.setup.rule 2 e))
    by_rule false e k = refl

    to : due t q ≡ true → Due t q
    to h =
        let c = both (r && leb q.rtag t.time) (passes t q) h in
        let d = both r (leb q.rtag t.time) c.0 in
        record {
          has_tag = d.0;
          at_or_before = leb-true q.rtag t.time d.1;
          by_rule_2 = λ e. (open_means t q).0 (subst (λ (b : Bool). (if b then open? t q else true) ≡ true) (eq-eqb t.setup.rule 2 e) c.1);
        }

    back : Due t q → due t q ≡ true
    back d = join (join d.has_tag (le-leb q.rtag t.time d.at_or_before)) (by_rule (eqb t.setup.rule 2) refl d.by_rule_2)

-- the choice is what the description asks
pub chosen : (t : Table) → Chosen t (choice t)
unfolding room choice by_reservation by_weight
chosen t = go (room t) refl
  where
    free : room t ≡ true → length t.flight < t.setup.depth
    free e = ltb-true (length t.flight) t.setup.depth e

    weigh : room t ≡ true → NoneIs (due t) t.waiting → (k : Pick) → Says (open? t) Request.stag t.waiting k → Chosen t (by_weight t k)
    weigh e n nobody m = nothing (free e) n m refl
    weigh e n (picked p v) a = weight a.place (free e) n a.foremost (rw (a.request, a.others))

    reserve : room t ≡ true → (k : Pick) → Says (due t) Request.rtag t.waiting k → Chosen t (by_reservation t k)
    reserve e nobody n = weigh e n (least (open? t) Request.stag t.waiting) (least-place (open? t) Request.stag t.waiting)
    reserve e (picked p v) a = reservation a.place (free e) a.foremost (rw (a.request, a.others))

    go : (b : Bool) → room t ≡ b → Chosen t (if b then by_reservation t (least (due t) Request.rtag t.waiting) else unsent t)
    go true e = reserve e (least (due t) Request.rtag t.waiting) (least-place (due t) Request.rtag t.waiting)
    go false e = full (ltb-false (length t.flight) t.setup.depth e) refl

-- the description fits one outcome only: so any two outcomes that it admits are equal
pub chosen_once : (t : Table) (r : Result) → Chosen t r → r ≡ choice t
unfolding room choice by_reservation by_weight
chosen_once t r (full f e) = rw (le-ltb (length t.flight) t.setup.depth f) e
chosen_once t r (reservation i f a e) =
    rw (lt-ltb (length t.flight) t.setup.depth f, least_at (due t) Request.rtag t.waiting i a) e
chosen_once t r (weight i f n a e) =
    rw (lt-ltb (length t.flight) t.setup.depth f, least-none (due t) Request.rtag t.waiting n, least_at (open? t) Request.stag t.waiting i a) e
chosen_once t r (nothing f n m e) =
    rw (lt-ltb (length t.flight) t.setup.depth f, least-none (due t) Request.rtag t.waiting n, least-none (open? t) Request.stag t.waiting m) e

-- an accepted event ends in the choice at the table that it enters
pub step_chosen : (t : Table) (e : Event) → accepted t e ≡ true → Chosen (enter t e) (step t e)
unfolding step decided
step_chosen t e h = go (verdict t e) h
  where
    go : (v : Verdict) → is_accept v ≡ true → Chosen (enter t e) (decided v t e)
    go accept h = chosen (enter t e)
    go (refuse r) h = absurd (true≢false (sym h))
