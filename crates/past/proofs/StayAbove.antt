-- "These stay above t": after a weight send the guest's reservation tags, and its next reservation number, are above the time. Document 02, K14: "after a rho of 0
-- they may come to t or before it", so it is a law of tables that are sound by the old rule and of runs from them whose rho are at least 1. Assumes nothing.
use mathlib.Core.Path.{◌≡◌, refl, sym, ap, ◌∙◌}
use mathlib.Core.Bool.{true, false, not, and-true}
use mathlib.Core.List.{List, ◌∷◌, ◌++◌, map}
use Prim.Native.Nat.{ℕ, suc, ◌≤◌, ◌<◌, ◌+◌, ◌-◌}
use native.Mathlib.Omega.{arith}
use lib.Dec.{ltb, leb}
use lib.ListN.{length}
use borrow.Author.Tests.{leb-true, leb-false, lt-ltb, ltb-true, not-true}
use Rattle.lists.specs.Words.{all}
use Rattle.lists.specs.WordsLaws.{all_mid, all-at, all_map}
use Rattle.rules.specs.declared.Phase.{Phase}
use Rattle.rules.specs.declared.Refusal.{Refusal}
use Rattle.rules.specs.declared.Phase.TheVariants.{Reservation, Weight}
use Rattle.rules.specs.declared.Answer.TheVariants.{Sent, Refused}
use Rattle.rules.specs.Tables.{Request, Table, reserved, rspacing, owner, settings_of, mine}
use Rattle.rules.specs.Choice.{Result, nobody, picked, least, due_at, due, open?, sending, earlier, renewed, drop_of, next_of, dropped, choice}
use Rattle.rules.specs.Chosen.{blank, at}
use Rattle.rules.specs.Events.{moment, enter}
use Rattle.rules.specs.declared.Event.{Event}
use Rattle.rules.specs.Refusals.{Verdict, accept, refuse, is_accept, verdict}
use Rattle.rules.specs.Run.{decided, step, after}
use Rattle.past.specs.Single.{sound_single, rho_some}
use Rattle.rules.proofs.Chains.{kept_above}
use Rattle.rules.proofs.SameSettings.{same-owner, enter-settings, run-settings}
use Rattle.rules.proofs.Facts.{Sound}
use Rattle.rules.proofs.Firsts.{First, open_passes, first_open}
use Rattle.rules.proofs.Picks.{Goes, open_goes, none_ok}
use Rattle.rules.proofs.Drops.{dropped-own, dropped-owner}
use Rattle.rules.proofs.ChoiceSound.{sent_known, sent_first}
use Rattle.rules.proofs.EnterSound.{enter_time, enter-sound}
use Rattle.past.proofs.Spaced.{Spaced, single_is, single_own, next_drops, enter-spaced, run-spaced}
use Rattle.rules.proofs.Cases.{choice_by}
use Rattle.rules.proofs.Answered.{nothing_sent}

-- every reservation tag that waits of guest g, and its next reservation number, are above now
pub record Above (now g : ℕ) (u : Table) : Type 0 where
  pub tags : (j : ℕ) → j < length (mine g u.waiting) → now < (at (mine g u.waiting) j).rtag
  pub next : now < (owner u.guests g).rnext

-- a request of a guest with a reservation that is open and not due has its tag after now
not_due : (t : Table) (p : Request) → reserved (settings_of t.guests p) ≡ true → open? t p ≡ true → due t p ≡ false → t.time < p.rtag
unfolding due_at
not_due t p r o d = leb-false p.rtag t.time (sym (and-true (leb p.rtag t.time)) ∙ (rw (r, open_passes t p o) at d))

-- p goes by weight, v stays, and the guest of p has a reservation
record ByWeight (t : Table) (p : Request) (v : List Request) : Type 0 where
  none-due : least (due t) Request.rtag t.waiting ≡ nobody
  picks : least (open? t) Request.stag t.waiting ≡ picked p v
  has : reserved (settings_of t.guests p) ≡ true

module _ (t : Table) (s : Sound t) (apt : Spaced t) (p : Request) (v : List Request) (w : ByWeight t p v) where
  -- what is sent by weight may go
  goes : Goes t p v
  goes = open_goes t s p v w.picks

  -- the tag of what is sent by weight is after now, for nothing was due
  later : t.time < p.rtag
  later =
      let k = goes.split in
      let a : all (λ q. not (due t q)) (k.before ++ p ∷ k.after) ≡ true =
      ap (all (λ q. not (due t q))) (sym k.stood) ∙ none_ok (due t) Request.rtag t.waiting w.none-due in
      let o : First (open? t) Request.stag p.guest (picked p v) t.waiting = rw w.picks at (first_open t s p.guest) in
      not_due t p w.has o.1 (not-true (due t p) (all_mid (λ q. not (due t q)) k.before p k.after a).0)

  -- what stays of its guest is more than a spacing after now
  far : (all (λ q. leb (suc (t.time + drop_of t p)) q.rtag) (mine p.guest v) ≡ true)
      × (suc (t.time + drop_of t p) ≤ (owner t.guests p.guest).rnext)
  far =
      let h = owner t.guests p.guest in
      let g = rspacing h.settings in
      let l = later in
      kept_above Request.rtag g g (suc (t.time + drop_of t p)) p (mine p.guest v) h.rnext (omega arith) (omega arith)
      (rw (sent_first t s p v goes, w.has) at (single_own t s apt p.guest))

  -- and so, a spacing earlier, it is after now
  weight_above : Above t.time p.guest (dropped p (sending t p v))
  unfolding sending earlier renewed
  weight_above =
      let g = p.guest in
      let u = sending t p v in
      let d = drop_of t p in
      let h = owner t.guests g in
      let own : mine g (dropped p u).waiting ≡ map (earlier d) (mine g v) = dropped-own p u in
      let his : owner (dropped p u).guests g ≡ renewed (next_of u p) h = dropped-owner p u (sent_known t s p v goes) in
      let low : all (λ q. ltb t.time q.rtag) (map (earlier d) (mine g v)) ≡ true =
      all_map (λ q. leb (suc (t.time + d)) q.rtag) (λ q. ltb t.time q.rtag) (earlier d)
      (λ q b. lt-ltb t.time (q.rtag - d) (omega (arith, leb-true (suc (t.time + d)) q.rtag b))) (mine g v) far.0
      in
      record {
        tags = rw own
            (λ j l. ltb-true t.time (at (map (earlier d) (mine g v)) j).rtag (all-at (λ q. ltb t.time q.rtag) (map (earlier d) (mine g v)) blank low j l));
        next = rw his (omega (arith, far.1, next_drops t s apt p v goes));
      }

-- THE CHOICE

-- an answer that sends is no refusal
refused_sent : {r : Refusal} {p : Phase} {g i : ℕ} → Refused r ≡ Sent p g i → ⊥
refused_sent e = let z : ◌≡◌ {A = ℕ} 0 1 = cc in omega arith

-- and the phases differ
other_phase : {g i h j : ℕ} → Sent Reservation g i ≡ Sent Weight h j → ⊥
other_phase e = let z : ◌≡◌ {A = ℕ} 0 1 = cc in omega arith

module _ (t : Table) (s : Sound t) (apt : Spaced t) (g i : ℕ) (r : reserved (owner t.guests g).settings ≡ true) where
  -- a result that sends by weight leaves guest g above the time
  abbrev Leaves : Result → Type 0
  Leaves x = x.answer ≡ Sent Weight g i → Above t.time g x.table

  -- the choice
  choice_above : Leaves (choice t)
  choice_above =
      choice_by Leaves t (λ a. absurd (nothing_sent a))
      (λ p v f e a. absurd (other_phase a))
      (λ p v f n e a.
      let q : p.guest ≡ g = cc in
      rw (← q) (weight_above t s apt p v (record { none-due = n; picks = e; has = rw q r })))

-- After a weight send from a table that is sound by the old rule the reservation tags that wait of the guest, and its next reservation number, are above the time.
pub stay_above : (t : Table) → sound_single t ≡ true → (g i : ℕ) → (choice t).answer ≡ Sent Weight g i → reserved (owner t.guests g).settings ≡ true
    → Above t.time g (choice t).table
stay_above t h g i a r = let s = single_is t h in choice_above t s.0 s.1 g i r a

-- AN EVENT

-- An event that sends by weight, where the tags stood apart before the choice.
event_above : (t : Table) (e : Event) (g i : ℕ) → Spaced t → rho_some e ≡ true → (step t e).answer ≡ Sent Weight g i → reserved (owner t.guests g).settings ≡ true
    → Above (moment e) g (step t e).table
unfolding step decided
event_above t e g i apt some a r = go (verdict t e) refl a
  where
    go : (v : Verdict) → verdict t e ≡ v → (decided v t e).answer ≡ Sent Weight g i → Above (moment e) g (decided v t e).table
    go accept q a =
        let u = enter t e in
        rw (← (enter_time t e))
        (choice_above u (enter-sound t e (ap is_accept q)) (enter-spaced t e (ap is_accept q) some apt) g i (ap reserved (same-owner u t (enter-settings t e) g) ∙ r) a)
    go (refuse x) q a = absurd (refused_sent a)

-- After any run of events whose rho are at least 1 from a table that is sound by the old rule, and one more of them that sends by weight: the same, above its time.
pub event_stay_above : (t : Table) → sound_single t ≡ true → (es : List Event) → all rho_some es ≡ true → (e : Event) → rho_some e ≡ true → (g i : ℕ)
    → (step (after t es) e).answer ≡ Sent Weight g i → reserved (owner t.guests g).settings ≡ true → Above (moment e) g (step (after t es) e).table
event_stay_above t h es some e one g i a r =
    event_above (after t es) e g i (run-spaced es t some (single_is t h).1) one a (ap reserved (same-owner (after t es) t (run-settings es t) g) ∙ r)
