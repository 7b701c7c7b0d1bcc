-- Document 02, K8: "Cost 1 is the old gate", over any run: from a table that is sound by the old rule and in which every cost is 1, arrivals of cost 1, and by K14 a
-- delta and a rho of 1, give the same answers and the same tables by the gate with costs and by the gate without, refused ones among them. Assumes nothing.
use mathlib.Core.Path.{◌≡◌, refl, sym, ap, ◌∙◌}
use mathlib.Core.Bool.{Bool, true, false, ◌&&◌, true≢false}
use mathlib.Core.List.{List, [], ◌∷◌, ◌++◌}
use Prim.Native.Nat.{ℕ, ◌≤◌, ◌<◌, ◌+◌, ◌*◌}
use native.Mathlib.Omega.{arith}
use native.Mathlib.Nat.{one-mul}
use lib.Dec.{eqb}
use lib.ListN.{length, get_or, set, get_or-map}
use lib.Seq.{get_or-set_other}
use borrow.Author.Tests.{leb-true, le-leb, eqb-true, eqb-false}
use Rattle.lists.specs.Words.{if◌then◌else◌, all, empty}
use Rattle.lists.specs.WordsLaws.{both, join, below_at, at-below, all_append, all_filter, all_mid, filter-append}
use Rattle.rules.specs.Numbers.{ceiling, second}
use Rattle.rules.specs.Tables.{Request, Table, reserved, limited, rplain, lplain, splain, lspacing, sspacing, nobodys, owner, of, mine, idle, names}
use Rattle.rules.specs.declared.Settings.{Settings}
use Rattle.rules.specs.declared.Guest.{Guest}
use Rattle.rules.specs.Sound.{ranges, ruled, roomy, timely, known, distinct, lawful, fair, priced, apart, follows, kept, no_gap, orderly, sound}
use Rattle.rules.specs.Events.{adjusted, stamped, following, placed, stamped_for, arrive_as, arrive, complete, wait, enter}
use Rattle.rules.specs.declared.Event.{Event}
use Rattle.rules.specs.declared.Event.TheVariants.{Arrival, Completion, Tick}
use Rattle.past.specs.Single.{orderly_single, sound_single, stamped_single, enter_single, dropped_single, by_weight_single, by_reservation_single, choice_single, one_and_one}
use Rattle.rules.specs.Choice.{Pick, nobody, picked, least, due, open?, sending, renewed, next_of, dropped, room, choice}
use Rattle.rules.specs.Refusals.{Verdict, accept, refuse, is_accept, judged, event_tests, open_tests, verdict, accepted}
use Rattle.rules.specs.Run.{decided, step, after, answers, newcomer, fresh}
use Rattle.rules.specs.Chosen.{unsent}
use Rattle.past.specs.Plain.{plain_bound, follows_plain, kept_plain, orderly_plain, sound_plain, following_plain, placed_plain, enter_plain, dropped_plain, by_weight_plain, by_reservation_plain, choice_plain, event_tests_plain, verdict_plain, decided_plain, step_plain, after_plain, answers_plain, costs_one, brings_one}
use Rattle.rules.proofs.Spacings.{down_le, up_le}
use Rattle.rules.proofs.SameSettings.{same_count, enter-settings, choice-settings}
use Rattle.rules.proofs.Facts.{Sound, sound_is, is_sound, orderly_is, lawful_is}
use Rattle.rules.proofs.Picks.{Between, splits, due-goes, open_goes}
use Rattle.past.proofs.Spaced.{Spaced, single_is, is_single, next_drops, enter-spaced, choice-spaced}
use Rattle.past.proofs.Single.{one-some, one-spread, stamped_single_lem, enter_single_lem, choice_single_lem}
use Rattle.rules.proofs.Drops.{dropped_costs, dropped-owner, dropped_other}
use Rattle.rules.proofs.ArriveSound.{adjusted_costs, adjusted-idle, adjusted-owner}
use Rattle.rules.proofs.EnterSound.{enter-sound}
use Rattle.rules.proofs.ChoiceSound.{choice-sound}
use Rattle.rules.proofs.Cases.{choice_by}
use Rattle.rules.proofs.Opening.{fresh-sound}
use Rattle.rules.proofs.Trials.{settings, -, lines}

-- a cost of 1 times a spacing is the spacing
one-times : (c d : ℕ) → eqb c 1 ≡ true → c * d ≡ d
one-times c d e = rw (eqb-true c 1 e) (one-mul d)

-- ONE KIND OF TAG

module _ (tag : Request → ℕ) (d : ℕ) where
  -- from tag to tag with costs
  abbrev spacing : Request → ℕ
  spacing q = q.cost * d

  -- tags stand as far apart
  apart-one : (l : List Request) → all costs_one l ≡ true → apart tag spacing l ≡ apart tag (λ q. d) l
  apart-one [] c = refl
  apart-one (q ∷ []) c = refl
  apart-one (q ∷ p ∷ l) c =
      let k = both (costs_one q) (all costs_one (p ∷ l)) c in
      rw (one-times q.cost d k.0, apart-one (p ∷ l) k.1)

  -- and the next number of a guest with something waiting follows them alike
  follows-one : (q : Request) (l : List Request) (n : ℕ) → all costs_one (q ∷ l) ≡ true → follows tag spacing (q ∷ l) n ≡ follows_plain tag d (q ∷ l) n
  follows-one q [] n c = rw (one-times q.cost d (both (costs_one q) true c).0)
  follows-one q (p ∷ l) n c = follows-one p l n (both (costs_one q) (all costs_one (p ∷ l)) c).1

  -- what is in order without costs is in order with them
  kept-with : (has : Bool) (l : List Request) (n : ℕ) → all costs_one l ≡ true → kept_plain has tag d l n ≡ true → kept has tag spacing spacing l n ≡ true
  unfolding kept kept_plain
  kept-with true [] n c h = le-leb n _ (omega (arith, leb-true n plain_bound h))
  kept-with true (q ∷ l) n c h = rw (apart-one (q ∷ l) c, follows-one q l n c) h
  kept-with false l n c h = h

  -- and back, where an idle guest's next number is within the smaller bound
  kept-without : (has : Bool) (l : List Request) (n : ℕ) → all costs_one l ≡ true → n ≤ plain_bound → kept has tag spacing spacing l n ≡ true → kept_plain has tag d l n ≡ true
  unfolding kept kept_plain
  kept-without true [] n c b h = le-leb n plain_bound b
  kept-without true (q ∷ l) n c b h = rw (← apart-one (q ∷ l) c, ← follows-one q l n c) h
  kept-without false l n c b h = h

module _ (tag : Request → ℕ) (d : ℕ) (fits : (q : Request) → lawful q ≡ true → tag q ≤ ceiling) (small : d ≤ second) where
  -- a next number that follows something is within the smaller bound
  follows-low : (q : Request) (l : List Request) (n : ℕ) → all lawful (q ∷ l) ≡ true → all costs_one (q ∷ l) ≡ true → follows tag (spacing tag d) (q ∷ l) n ≡ true → n ≤ plain_bound
  follows-low q [] n a c h =
      omega (arith, fits q (both (lawful q) true a).0, one-times q.cost d (both (costs_one q) true c).0, eqb-true n (tag q + q.cost * d) h)
  follows-low q (p ∷ l) n a c h = follows-low p l n (both (lawful q) (all lawful (p ∷ l)) a).1 (both (costs_one q) (all costs_one (p ∷ l)) c).1 h

  -- so is that of a guest with something waiting
  busy_low : (gap : Request → ℕ) (has : Bool) (l : List Request) (n : ℕ) → empty l ≡ false → all lawful l ≡ true → all costs_one l ≡ true → kept has tag gap (spacing tag d) l n ≡ true
      → n ≤ plain_bound
  unfolding kept
  busy_low gap true [] n e a c h = absurd (true≢false e)
  busy_low gap true (q ∷ l) n e a c h = follows-low q l n a c (both (apart tag gap (q ∷ l)) (follows tag (spacing tag d) (q ∷ l) n) h).1
  busy_low gap false l n e a c h = omega (arith, eqb-true n 0 (both (eqb n 0) (all (λ q. eqb (tag q) 0) l) h).0)

  -- and that of any guest of a table that is sound by the old rule
  plain-low : (has : Bool) (l : List Request) (n : ℕ) → all lawful l ≡ true → all costs_one l ≡ true → kept_plain has tag d l n ≡ true → n ≤ plain_bound
  unfolding kept_plain
  plain-low true [] n a c h = leb-true n plain_bound h
  plain-low true (q ∷ l) n a c h = busy_low (spacing tag d) true (q ∷ l) n refl a c (kept-with tag d true (q ∷ l) n c h)
  plain-low false l n a c h = omega (arith, eqb-true n 0 (both (eqb n 0) (all (λ q. eqb (tag q) 0) l) h).0)

-- A GUEST

-- its next numbers are within the smaller bound
record Low (h : Guest) : Type 0 where
  reservation : h.rnext ≤ plain_bound
  limit : h.lnext ≤ plain_bound
  share : h.snext ≤ plain_bound

module _ (h : Guest) (l : List Request) (a : all lawful l ≡ true) (c : all costs_one l ≡ true) where
  -- a guest with something waiting is low
  low_busy : empty l ≡ false → orderly h l ≡ true → Low h
  low_busy e o =
      let s = h.settings in
      let k = orderly_is h l o in
      record {
        reservation = busy_low Request.rtag (rplain s) (λ q f. (lawful_is q f).reservation) (down_le s.reservation) no_gap (reserved s) l h.rnext e a c k.reservations;
        limit = busy_low Request.ltag (lplain s) (λ q f. (lawful_is q f).limit) (up_le s.limit) (lspacing s) (limited s) l h.lnext e a c k.limits;
        share = busy_low Request.stag (splain s) (λ q f. (lawful_is q f).share) (down_le s.shares) (sspacing s) true l h.snext e a c k.shares;
      }

  -- in order without costs is in order with them, and low
  orderly-with : orderly_plain h l ≡ true → (orderly_single h l ≡ true) × Low h
  unfolding orderly_plain orderly_single
  orderly-with o =
      let s = h.settings in
      let y = both _ _ o in
      let x = both _ _ y.0 in (
        join (join (kept-with Request.rtag (rplain s) (reserved s) l h.rnext c x.0) (kept-with Request.ltag (lplain s) (limited s) l h.lnext c x.1))
            (kept-with Request.stag (splain s) true l h.snext c y.1),
        record {
          reservation = plain-low Request.rtag (rplain s) (λ q f. (lawful_is q f).reservation) (down_le s.reservation) (reserved s) l h.rnext a c x.0;
          limit = plain-low Request.ltag (lplain s) (λ q f. (lawful_is q f).limit) (up_le s.limit) (limited s) l h.lnext a c x.1;
          share = plain-low Request.stag (splain s) (λ q f. (lawful_is q f).share) (down_le s.shares) true l h.snext a c y.1;
        },
      )

  -- and back
  orderly-without : orderly_single h l ≡ true → Low h → orderly_plain h l ≡ true
  unfolding orderly_plain orderly_single
  orderly-without o b =
      let s = h.settings in
      let y = both _ _ o in
      let x = both _ _ y.0 in
      join (join (kept-without Request.rtag (rplain s) (reserved s) l h.rnext c b.reservation x.0)
      (kept-without Request.ltag (lplain s) (limited s) l h.lnext c b.limit x.1))
      (kept-without Request.stag (splain s) true l h.snext c b.share y.1)

-- A TABLE

-- a table that is sound by the rule before K14, in which every cost is 1 and every guest is low
record Level (t : Table) : Type 0 where
  sound-with : Sound t
  spaced : Spaced t
  ones : all costs_one t.waiting ≡ true
  low : (g : ℕ) → g < length t.guests → Low (owner t.guests g)

-- a cost of 1 may be kept in a table
fair-one : (c : ℕ) → eqb c 1 ≡ true → fair c ≡ true
unfolding fair
fair-one c e = rw (eqb-true c 1 e)

-- so may all of them
priced-one : (l : List Request) → all costs_one l ≡ true → all priced l ≡ true
priced-one [] c = refl
priced-one (q ∷ l) c = let k = both (costs_one q) (all costs_one l) c in join (fair-one q.cost k.0) (priced-one l k.1)

-- that is a table that is sound by the old rule and in which every cost is 1
to_level : (t : Table) → sound_plain t ≡ true → all costs_one t.waiting ≡ true → Level t
unfolding sound_plain sound_single
to_level t h c =
    let h7 = both (ranges t && ruled t.setup.rule && roomy t && timely t && known t && distinct (names t) && all lawful t.waiting) _ h in
    let h6 = both (ranges t && ruled t.setup.rule && roomy t && timely t && known t && distinct (names t)) (all lawful t.waiting) h7.0 in
    let order : (g : ℕ) → g < length t.guests → orderly_plain (owner t.guests g) (mine g t.waiting) ≡ true =
    below_at (length t.guests) (λ g. orderly_plain (owner t.guests g) (mine g t.waiting)) h7.1
    in
    let each : (g : ℕ) → g < length t.guests → (orderly_single (owner t.guests g) (mine g t.waiting) ≡ true) × Low (owner t.guests g) =
    λ g k. orderly-with (owner t.guests g) (mine g t.waiting) (all_filter lawful (of g) t.waiting h6.1) (all_filter costs_one (of g) t.waiting c) (order g k)
    in
    let s = single_is t
    (join (join h7.0 (priced-one t.waiting c)) (at-below (length t.guests) (λ g. orderly_single (owner t.guests g) (mine g t.waiting)) (λ g k. (each g k).0)))
    in
    record { sound-with = s.0; spaced = s.1; ones = c; low = λ g k. (each g k).1 }

-- and back
from_level : (t : Table) → Level t → sound_plain t ≡ true
unfolding sound_plain sound_single
from_level t v =
    let s = v.sound-with in
    let h8 = both (ranges t && ruled t.setup.rule && roomy t && timely t && known t && distinct (names t) && all lawful t.waiting && all priced t.waiting) _ (is_single t s v.spaced) in
    let h7 = both (ranges t && ruled t.setup.rule && roomy t && timely t && known t && distinct (names t) && all lawful t.waiting) (all priced t.waiting) h8.0 in
    join h7.0
    (at-below (length t.guests) (λ g. orderly_plain (owner t.guests g) (mine g t.waiting))
    (λ g k. orderly-without (owner t.guests g) (mine g t.waiting) (all_filter lawful (of g) t.waiting s.tags_fit) (all_filter costs_one (of g) t.waiting v.ones)
    (below_at (length t.guests) (λ g. orderly_single (owner t.guests g) (mine g t.waiting)) h8.1 g k) (v.low g k)))

-- WHAT AN EVENT DOES

-- next numbers
following-one : (q : Request) (h : Guest) → eqb q.cost 1 ≡ true → following q h ≡ following_plain q h
unfolding following following_plain
following-one q h e =
    let s = h.settings in
    rw (one-times q.cost (rplain s) e, one-times q.cost (lplain s) e, one-times q.cost (splain s) e)

-- before the choice
enter_one : (t : Table) (e : Event) → brings_one e ≡ true → enter_single t e ≡ enter_plain t e
unfolding enter_single placed enter_plain placed_plain stamped
enter_one t (Arrival a now) c =
    let b = idle t a.guest in
    let u = adjusted b now t in
    let q = stamped_single b now a t in
    ap (λ (h : Guest). record { setup = u.setup; time = now; guests = set u.guests q.guest h; waiting = u.waiting ++ (q ∷ []); flight = u.flight })
    (following-one q (owner u.guests q.guest) c)
enter_one t (Completion f now) c = refl
enter_one t (Tick now) c = refl

-- the drop
dropped-one : (q : Request) (t : Table) → eqb q.cost 1 ≡ true → dropped_single q t ≡ dropped_plain q t
unfolding dropped_single dropped_plain
dropped-one q t e = rw (one-times q.cost (rplain (owner t.guests q.guest).settings) e)

-- the choice
choice-one : (t : Table) → all costs_one t.waiting ≡ true → choice_single t ≡ choice_plain t
unfolding choice_single by_reservation_single by_weight_single choice_plain by_reservation_plain by_weight_plain
choice-one t c = ap (λ r. if room t then r else unsent t) (reserve (least (due t) Request.rtag t.waiting))
  where
    weigh : (k : Pick) → least (open? t) Request.stag t.waiting ≡ k → by_weight_single t k ≡ by_weight_plain t k
    weigh nobody e = refl
    weigh (picked p v) e =
        let b : Between p v t.waiting = rw e at (splits (open? t) Request.stag t.waiting) in
        let one = (all_mid costs_one b.before p b.after (rw b.stood at c)).0 in
        ap (λ (u : Table). record { table = u; answer = (by_weight_single t (picked p v)).answer }) (dropped-one p (sending t p v) one)

    reserve : (k : Pick) → by_reservation_single t k ≡ by_reservation_plain t k
    reserve nobody = weigh (least (open? t) Request.stag t.waiting) refl
    reserve (picked p v) = refl

-- AN EVENT KEEPS A TABLE LEVEL

-- where something was placed last that is not guest g's, g has been idle if it is
last_other : (g : ℕ) (q : Request) (w : List Request) → empty (mine g (w ++ (q ∷ []))) ≡ true → (of g q ≡ false) × (empty (mine g w) ≡ true)
last_other g q w = rw (filter-append (of g) w (q ∷ [])) (go (of g q) refl (mine g w))
  where
    go : (b : Bool) → of g q ≡ b → (l : List Request) → empty (l ++ (if of g q then q ∷ [] else [])) ≡ true → (of g q ≡ false) × (empty l ≡ true)
    go b e (p ∷ l) h = absurd (true≢false (sym h))
    go true e [] h = absurd (true≢false (sym (rw e at h)))
    go false e [] h = (e, refl)

-- a guest that is idle when a request has been placed has the numbers that it had before
arrived-owner : (b : Bool) (now : ℕ) (q : Request) (t : Table) (g : ℕ) → g < length t.guests → idle (placed now q (adjusted b now t)) g ≡ true
    → owner (placed now q (adjusted b now t)).guests g ≡ owner t.guests g
unfolding placed idle adjusted
arrived-owner b now q t g k h =
    let u = adjusted b now t in
    let o = last_other g q u.waiting h in
    let other : g ≡ q.guest → ⊥ = λ z. eqb-false q.guest g o.0 (sym z) in
    get_or-set_other u.guests q.guest g (following q (owner u.guests q.guest)) nobodys other ∙ unmoved b o.1
  where
    unmoved : (b : Bool) → idle (adjusted b now t) g ≡ true → owner (adjusted b now t).guests g ≡ owner t.guests g
    unmoved false i = refl
    unmoved true i = adjusted-owner t now true g (sym (adjusted-idle t now true g) ∙ i) k

-- so before any choice
entered_owner : (t : Table) (e : Event) (g : ℕ) → g < length t.guests → idle (enter t e) g ≡ true → owner (enter t e).guests g ≡ owner t.guests g
unfolding enter arrive arrive_as complete wait
entered_owner t (Arrival a now) g k h = arrived-owner (idle t a.guest) now (stamped_for (idle t a.guest) now a t) t g k h
entered_owner t (Completion f now) g k h = refl
entered_owner t (Tick now) g k h = refl

-- every cost is still 1
entered_ones : (t : Table) (e : Event) → brings_one e ≡ true → all costs_one t.waiting ≡ true → all costs_one (enter t e).waiting ≡ true
unfolding enter arrive arrive_as placed stamped complete wait
entered_ones t (Arrival a now) c h =
    let b = idle t a.guest in
    all_append costs_one (adjusted b now t).waiting (stamped_for b now a t ∷ []) (adjusted_costs t now (λ n. eqb n 1) b ∙ h) (join c refl)
entered_ones t (Completion f now) c h = h
entered_ones t (Tick now) c h = h

-- an accepted event leaves a level table to the choice
enter_level : (t : Table) (e : Event) → accepted t e ≡ true → brings_one e ≡ true → one_and_one e ≡ true → Level t → Level (enter t e)
unfolding idle
enter_level t e a c o v =
    let s = enter-sound t e a in
    let n = entered_ones t e c v.ones in
    record {
      sound-with = s;
      spaced = enter-spaced t e a (one-some e o) v.spaced;
      ones = n;
      low = λ g k. elim (idle (enter t e) g) as (λ b. idle (enter t e) g ≡ b → Low (owner (enter t e).guests g)) [
        | true ↦ λ i. rw (entered_owner t e g (rw (same_count (enter t e) t (enter-settings t e)) at k) i) (v.low g (rw (same_count (enter t e) t (enter-settings t e)) at k))
        | false ↦ λ i. low_busy (owner (enter t e).guests g) (mine g (enter t e).waiting) (all_filter lawful (of g) (enter t e).waiting s.tags_fit)
            (all_filter costs_one (of g) (enter t e).waiting n) i (s.guests_orderly g k)
      ] refl;
    }

-- what stays when p has gone from between
stays_one : (p : Request) (v w : List Request) → Between p v w → all costs_one w ≡ true → all costs_one v ≡ true
stays_one p v w b c = rw b.stay (all_mid costs_one b.before p b.after (rw b.stood at c)).1

-- a drop by which the next number does not rise leaves each guest low
dropped-low : (p : Request) (u : Table) (g : ℕ) → g < length u.guests → next_of u p ≤ (owner u.guests p.guest).rnext → Low (owner u.guests g)
    → Low (owner (dropped p u).guests g)
unfolding renewed
dropped-low p u g k n l = go (eqb g p.guest) refl
  where
    go : (b : Bool) → eqb g p.guest ≡ b → Low (owner (dropped p u).guests g)
    go true e =
        let i = eqb-true g p.guest e in
        let m : Low (owner u.guests p.guest) = rw i at l in
        rw (i, dropped-owner p u (rw i at k)) (record { reservation = omega (arith, m.reservation); limit = m.limit; share = m.share })
    go false e = rw (dropped_other p u g e) l

-- the choice leaves a level table
choice_level : (t : Table) → Level t → Level (choice t).table
unfolding sending
choice_level t v =
    let s = v.sound-with in
    record {
      sound-with = choice-sound t s;
      spaced = choice-spaced t s v.spaced;
      ones = choice_by (λ r. all costs_one r.table.waiting ≡ true) t v.ones
          (λ p w f e. stays_one p w t.waiting (due-goes t s p w e).split v.ones)
          (λ p w f n e. dropped_costs p (sending t p w) (λ c. eqb c 1) ∙ stays_one p w t.waiting (open_goes t s p w e).split v.ones);
      low = λ g k. let i : g < length t.guests = rw (same_count (choice t).table t (choice-settings t)) at k in
          choice_by (λ r. Low (owner r.table.guests g)) t (v.low g i) (λ p w f e. v.low g i)
          (λ p w f n e. dropped-low p (sending t p w) g i (omega (arith, next_drops t s v.spaced p w (open_goes t s p w e))) (v.low g i));
    }

-- ONE EVENT

-- the verdicts are the same
verdict-one : (t : Table) (e : Event) → Level t → brings_one e ≡ true → one_and_one e ≡ true → verdict t e ≡ verdict_plain t e
unfolding event_tests event_tests_plain
verdict-one t (Arrival a now) v c o =
    let k = both (eqb a.delta 1) (eqb a.rho 1) o in
    rw (is_sound t v.sound-with, from_level t v, fair-one a.cost c, one-spread a.delta a.rho k.0 k.1, stamped_single_lem (idle t a.guest) now a t o)
verdict-one t (Completion f now) v c o = rw (is_sound t v.sound-with, from_level t v)
verdict-one t (Tick now) v c o = rw (is_sound t v.sound-with, from_level t v)

-- and what follows from them
step-one : (t : Table) (e : Event) → Level t → brings_one e ≡ true → one_and_one e ≡ true → (step t e ≡ step_plain t e) × Level (step t e).table
unfolding step decided step_plain decided_plain
step-one t e v c o = rw (← verdict-one t e v c o) (go (verdict t e) refl)
  where
    go : (k : Verdict) → verdict t e ≡ k → (decided k t e ≡ decided_plain k t e) × Level (decided k t e).table
    go accept h =
        let u = enter_level t e (ap is_accept h) c o v in (
          choice_single_lem (enter t e) u.sound-with u.spaced ∙ choice-one (enter t e) u.ones ∙ ap choice_plain (enter_single_lem t e o ∙ enter_one t e c),
          choice_level (enter t e) u,
        )
    go (refuse r) h = (refl, v)

-- A RUN

-- a run from t by the gate with costs is the same by the gate without, and ends where another such run may begin
pub record SameRun (t : Table) (es : List Event) : Type 0 where
  pub same-answers : answers t es ≡ answers_plain t es
  pub same-table : after t es ≡ after_plain t es
  pub sound_by_both : (sound (after t es) ≡ true) × (sound_plain (after t es) ≡ true)
  pub costs : all costs_one (after t es).waiting ≡ true

-- from a level table
run-one : (es : List Event) (t : Table) → Level t → all brings_one es ≡ true → all one_and_one es ≡ true → SameRun t es
unfolding answers after answers_plain after_plain
run-one [] t v c o = record { same-answers = refl; same-table = refl; sound_by_both = (is_sound t v.sound-with, from_level t v); costs = v.ones }
run-one (e ∷ es) t v c o =
    let d = both (brings_one e) (all brings_one es) c in
    let k = both (one_and_one e) (all one_and_one es) o in
    let n = step-one t e v d.0 k.0 in
    let i = run-one es (step t e).table n.1 d.1 k.1 in
    record {
      same-answers = rw (← n.0) (ap ((step t e).answer ∷◌) i.same-answers);
      same-table = rw (← n.0) i.same-table;
      sound_by_both = i.sound_by_both;
      costs = i.costs;
    }

-- COST 1 IS THE OLD GATE: from any table that is sound by the old rule and in which every cost is 1, over any run of events whose arrivals have cost 1, and one and
-- one.
pub cost_1 : (es : List Event) (t : Table) → sound_plain t ≡ true → all costs_one t.waiting ≡ true → all brings_one es ≡ true → all one_and_one es ≡ true → SameRun t es
cost_1 es t s c k o = run-one es t (to_level t s c) k o

-- WHERE SUCH RUNS BEGIN

-- An opening that is not refused gives a table that is sound by the old rule.
pub fresh-plain : (short : Bool) (d n c r : ℕ) (ss : List Settings) → judged (open_tests short d n c r ss) ≡ accept → length ss ≡ n → sound_plain (fresh d c r ss) ≡ true
unfolding fresh
fresh-plain short d n c r ss h l = from_level (fresh d c r ss) (level (sound_is (fresh d c r ss) (fresh-sound short d n c r ss h l)))
  where
    new : (s : Settings) → Low (newcomer s)
    new s = record { reservation = omega arith; limit = omega arith; share = omega arith }

    level : Sound (fresh d c r ss) → Level (fresh d c r ss)
    level s =
        record {
          sound-with = s;
          spaced = λ g. refl;
          ones = refl;
          low = λ g k. rw (get_or-map newcomer ss g nobodys.settings) (new (get_or ss g nobodys.settings));
        }

-- one guest, idle, with this next share number
abbrev idle_at : ℕ → Table
idle_at n =
    record {
      setup = record { depth = 1; capacity = 8; rule = 1 };
      time = 0;
      guests = record { settings = settings 0 0 1; rnext = 0; lnext = 0; snext = n } ∷ [];
      waiting = [];
      flight = [];
    }

-- "at most the ceiling plus 1,000,000,000": one more is sound by the new rule only
pub record OldBound : Type 0 where
  pub within_old : sound_plain (idle_at (ceiling + second)) ≡ true
  pub above_old : sound_plain (idle_at (ceiling + second + 1)) ≡ false
  pub within_new : lines (idle_at (ceiling + second + 1)) (Tick 0 ∷ []) ≡ - ∷ []

-- they all hold
pub old_bound : OldBound
unfolding sound_plain orderly_plain kept_plain lines
old_bound = record { within_old = refl; above_old = refl; within_new = refl }
