-- Tables that are sound by the rule before document 02, K14, where reservation tags too stand a spacing apart: events whose rho is at least 1 keep them so, and
-- there a drop takes nothing below 0 and the next number drops with the tags. Assumes nothing.
use mathlib.Core.Path.{◌≡◌, refl, ◌∙◌}
use mathlib.Core.Bool.{Bool, true, false, ◌&&◌, false≢true}
use mathlib.Core.List.{List, [], ◌∷◌, ◌++◌, append-nil}
use Prim.Native.Nat.{ℕ, ◌+◌, ◌-◌, ◌≤◌, ◌<◌}
use native.Mathlib.Omega.{arith}
use lib.Dec.{ltb, leb, eqb}
use lib.ListN.{length}
use borrow.Author.Tests.{leb-true, le-leb, ltb-true, ltb-false, eqb-true}
use Rattle.lists.specs.Words.{if◌then◌else◌, all, empty}
use Rattle.lists.specs.WordsLaws.{both, join, below_at, at-below, all_append, all_filter, filter_map, filter-append}
use Rattle.rules.specs.Tables.{Request, Table, reserved, rplain, rspacing, owner, of, mine, idle, names}
use Rattle.rules.specs.declared.Settings.{Settings}
use Rattle.rules.specs.Sound.{ranges, ruled, roomy, timely, known, distinct, lawful, priced, apart, follows, kept, no_gap, orderly, sound}
use Rattle.rules.specs.Events.{smallest, shifted, adjusted, stamped, placed, raised, stamped_for, arrive_as, arrive, complete, wait, enter}
use Rattle.rules.specs.declared.Arriving.{Arriving}
use Rattle.rules.specs.declared.Event.{Event}
use Rattle.rules.specs.declared.Event.TheVariants.{Arrival, Completion, Tick}
use Rattle.rules.specs.Choice.{sending, earlier, resumed, drop_of, next_of, dropped, choice}
use Rattle.rules.specs.Refusals.{accepted}
use Rattle.rules.specs.Run.{step, after}
use Rattle.past.specs.Single.{orderly_single, sound_single, rho_some}
use Rattle.rules.proofs.Spacings.{no_down, cost_none}
use Rattle.rules.proofs.Raises.{raised_above}
use Rattle.rules.proofs.Chains.{apart_tail, apart_above, apart_snoc, apart-same, apart-drop}
use Rattle.rules.proofs.SameSettings.{same-owner, dropped-settings, adjusted-settings, placed-settings}
use Rattle.rules.proofs.Facts.{Sound, sound_is, is_sound, orderly_is, is_orderly, mine-none, waiting-known, any_orderly}
use Rattle.rules.proofs.Picks.{Goes, due-goes, open_goes}
use Rattle.rules.proofs.Drops.{dropped-own, dropped-others}
use Rattle.rules.proofs.ArriveSound.{adjusted-idle}
use Rattle.rules.proofs.ChoiceSound.{sent_first, resumed-none}
use Rattle.rules.proofs.EnterSound.{accepted-finds, enter-sound}
use Rattle.rules.proofs.StepSound.{accepted-step, refused_keeps}
use Rattle.rules.proofs.Cases.{choice_by}

-- the reservation tags that wait of each guest stand its spacing apart
abbrev pub Spaced : Table → Type 0
Spaced t = (g : ℕ) → apart Request.rtag (rspacing (owner t.guests g).settings) (mine g t.waiting) ≡ true

-- ONE GUEST

module _ (s : Settings) where
  -- tags of a guest without a reservation, which are all 0
  zeros-apart : rplain s ≡ 0 → (l : List Request) → all (λ q. eqb q.rtag 0) l ≡ true → apart Request.rtag (rspacing s) l ≡ true
  zeros-apart z [] a = refl
  zeros-apart z (q ∷ []) a = refl
  zeros-apart z (q ∷ p ∷ l) a =
      let c = both (eqb q.rtag 0) (all (λ q. eqb q.rtag 0) (p ∷ l)) a in
      join (le-leb (q.rtag + rspacing s q) p.rtag (omega (arith, eqb-true q.rtag 0 c.0, cost_none q.cost (rplain s) z)))
      (zeros-apart z (p ∷ l) c.1)

  -- tags a spacing apart do not fall
  apart_loose : (l : List Request) → apart Request.rtag (rspacing s) l ≡ true → apart Request.rtag no_gap l ≡ true
  apart_loose [] a = refl
  apart_loose (q ∷ []) a = refl
  apart_loose (q ∷ p ∷ l) a =
      let c = both (leb (q.rtag + rspacing s q) p.rtag) (apart Request.rtag (rspacing s) (p ∷ l)) a in
      join (le-leb (q.rtag + 0) p.rtag (omega (arith, leb-true (q.rtag + rspacing s q) p.rtag c.0))) (apart_loose (p ∷ l) c.1)

  -- what is in order by the old rule is in order, and its tags stand apart
  kept_loose : (has : Bool) → reserved s ≡ has → (l : List Request) (n : ℕ) → kept has Request.rtag (rspacing s) (rspacing s) l n ≡ true
      → (kept has Request.rtag no_gap (rspacing s) l n ≡ true) × (apart Request.rtag (rspacing s) l ≡ true)
  unfolding kept
  kept_loose true e l n h =
      let c = both (apart Request.rtag (rspacing s) l) (follows Request.rtag (rspacing s) l n) h in
      (join (apart_loose l c.0) c.1, c.0)
  kept_loose false e l n h = (h, zeros-apart (no_down s.reservation e) l (both (eqb n 0) (all (λ q. eqb q.rtag 0) l) h).1)

  -- and back
  pub kept_tight : (has : Bool) (l : List Request) (n : ℕ) → kept has Request.rtag no_gap (rspacing s) l n ≡ true → apart Request.rtag (rspacing s) l ≡ true
      → kept has Request.rtag (rspacing s) (rspacing s) l n ≡ true
  unfolding kept
  kept_tight true l n h a = join a (both (apart Request.rtag no_gap l) (follows Request.rtag (rspacing s) l n) h).1
  kept_tight false l n h a = h

  module _ (d : ℕ) where
    -- a next number that follows tags of which none is below d drops with them
    follows-drop : (l : List Request) (n : ℕ) → follows Request.rtag (rspacing s) l n ≡ true → all (λ q. leb d q.rtag) l ≡ true → resumed s d l n ≡ n - d
    follows-drop [] n f b = refl
    follows-drop (q ∷ []) n f b =
        omega (arith, eqb-true n (q.rtag + rspacing s q) f, leb-true d q.rtag (both (leb d q.rtag) true b).0)
    follows-drop (q ∷ p ∷ l) n f b = follows-drop (p ∷ l) n f (both (leb d q.rtag) (all (λ q. leb d q.rtag) (p ∷ l)) b).1

    -- and so where a first one has gone
    resumed-drop : (has : Bool) → reserved s ≡ has → (p : Request) (l : List Request) (n : ℕ) → kept has Request.rtag no_gap (rspacing s) (p ∷ l) n ≡ true
        → all (λ q. leb d q.rtag) l ≡ true → resumed s d l n ≡ n - d
    unfolding kept
    resumed-drop true e p [] n h b = refl
    resumed-drop true e p (q ∷ l) n h b =
        follows-drop (q ∷ l) n (both (apart Request.rtag no_gap (p ∷ q ∷ l)) (follows Request.rtag (rspacing s) (q ∷ l) n) h).1 b
    resumed-drop false e p l n h b =
        let c = both (eqb n 0) (all (λ q. eqb q.rtag 0) (p ∷ l)) h in
        let z = eqb-true n 0 c.0 in
        omega (arith, resumed-none s d (no_down s.reservation e) l n z (both (eqb p.rtag 0) (all (λ q. eqb q.rtag 0) l) c.1).1)

-- A TABLE

module _ (t : Table) where
  -- a table that is sound by the old rule is sound, and its reservation tags stand apart
  pub single_is : sound_single t ≡ true → Sound t × Spaced t
  unfolding sound_single orderly_single sound
  single_is h =
      let c = both (ranges t && ruled t.setup.rule && roomy t && timely t && known t && distinct (names t) && all lawful t.waiting && all priced t.waiting) _ h in
      let each : (g : ℕ) → g < length t.guests → orderly_single (owner t.guests g) (mine g t.waiting) ≡ true =
      below_at (length t.guests) (λ g. orderly_single (owner t.guests g) (mine g t.waiting)) c.1
      in
      let s = sound_is t (join c.0 (at-below (length t.guests) (λ g. orderly (owner t.guests g) (mine g t.waiting)) (λ g k. (loose g (each g k)).0))) in (
        s,
        λ g. elim (ltb g (length t.guests)) as (λ b. ltb g (length t.guests) ≡ b → apart Request.rtag (rspacing (owner t.guests g).settings) (mine g t.waiting) ≡ true) [
          | true ↦ λ e. (loose g (each g (ltb-true g (length t.guests) e))).1
          | false ↦ λ e. rw (mine-none (length t.guests) g t.waiting (ltb-false g (length t.guests) e) (waiting-known t s))
        ] refl,
      )
    where
      loose : (g : ℕ) → orderly_single (owner t.guests g) (mine g t.waiting) ≡ true
          → (orderly (owner t.guests g) (mine g t.waiting) ≡ true) × (apart Request.rtag (rspacing (owner t.guests g).settings) (mine g t.waiting) ≡ true)
      loose g o =
          let h = owner t.guests g in
          let y = both _ _ o in
          let x = both _ _ y.0 in
          let r = kept_loose h.settings (reserved h.settings) refl (mine g t.waiting) h.rnext x.0 in
          (is_orderly h (mine g t.waiting) (record { reservations = r.0; limits = x.1; shares = y.1 }), r.1)

  -- the reservation tags of guest g by the old rule
  pub single_own : Sound t → Spaced t → (g : ℕ)
      → kept (reserved (owner t.guests g).settings) Request.rtag (rspacing (owner t.guests g).settings) (rspacing (owner t.guests g).settings) (mine g t.waiting) (owner t.guests g).rnext ≡ true
  single_own s a g =
      let h = owner t.guests g in
      kept_tight h.settings (reserved h.settings) (mine g t.waiting) h.rnext (orderly_is h (mine g t.waiting) (any_orderly t s g)).reservations (a g)

  -- and back
  pub is_single : Sound t → Spaced t → sound_single t ≡ true
  unfolding sound_single orderly_single sound
  is_single s a =
      let c = both (ranges t && ruled t.setup.rule && roomy t && timely t && known t && distinct (names t) && all lawful t.waiting && all priced t.waiting) _ (is_sound t s) in
      join c.0
      (at-below (length t.guests) (λ g. orderly_single (owner t.guests g) (mine g t.waiting))
      (λ g k. let o = orderly_is (owner t.guests g) (mine g t.waiting) (s.guests_orderly g k) in join (join (single_own s a g) o.limits) o.shares))

-- AN EVENT, up to the choice

-- what has no first is empty
empty_is : (l : List Request) → empty l ≡ true → l ≡ []
empty_is [] e = refl
empty_is (q ∷ l) e = absurd (false≢true e)

module _ (t : Table) (now : ℕ) where
  -- the settling of the shares moves no reservation tag
  adjusted-spaced : (b : Bool) → Spaced t → Spaced (adjusted b now t)
  unfolding adjusted shifted
  adjusted-spaced false a g = a g
  adjusted-spaced true a g =
      let f = shifted now (smallest t) in
      let gap = rspacing (owner t.guests g).settings in
      rw (same-owner (adjusted true now t) t (adjusted-settings true now t) g, filter_map (of g) f (λ q. refl) t.waiting)
      (apart-same Request.rtag gap gap f (λ q. refl) (λ q. refl) (λ q. refl) (mine g t.waiting) ∙ a g)

module _ (t : Table) (s : Sound t) (a : Arriving) (now : ℕ) (some : 1 ≤ a.rho) (apt : Spaced t) where
  -- where the guest is busy, its new tag is a spacing past the last
  snoc_spaced : (b has : Bool) → reserved (owner t.guests a.guest).settings ≡ has
      → kept has Request.rtag no_gap (rspacing (owner t.guests a.guest).settings) (mine a.guest t.waiting) (owner t.guests a.guest).rnext ≡ true
      → apart Request.rtag (rspacing (owner t.guests a.guest).settings) (mine a.guest t.waiting ++ (stamped_for b now a t ∷ [])) ≡ true
  unfolding kept stamped raised
  snoc_spaced b true e k =
      let h = owner t.guests a.guest in
      let l = mine a.guest t.waiting in
      let gap = rspacing h.settings in
      let c = both (apart Request.rtag no_gap l) (follows Request.rtag gap l h.rnext) k in
      apart_snoc Request.rtag gap gap 0 (λ p z. omega arith) l h.rnext (stamped_for b now a t) (all_filter priced (of a.guest) t.waiting s.costs_fit)
      (λ z. rw e (omega (arith, raised_above a.rho (rplain h.settings) h.rnext some))) (apt a.guest) c.1
  snoc_spaced b false e k =
      let h = owner t.guests a.guest in
      let l = mine a.guest t.waiting in
      let c = both (eqb h.rnext 0) (all (λ q. eqb q.rtag 0) l) k in
      zeros-apart h.settings (no_down h.settings.reservation e) (l ++ (stamped_for b now a t ∷ []))
      (all_append (λ q. eqb q.rtag 0) l (stamped_for b now a t ∷ []) c.1 (rw e))

  -- an arrival
  arrive_as-spaced : (b : Bool) → idle t a.guest ≡ b → Spaced (arrive_as b now a t)
  unfolding arrive_as placed idle adjusted stamped
  arrive_as-spaced b e g =
      let u = adjusted b now t in
      let q = stamped_for b now a t in
      rw (same-owner (placed now q u) u (placed-settings now q u) g, filter-append (of g) u.waiting (q ∷ [])) (go (of g q) refl)
    where
      own : (b : Bool) → idle t a.guest ≡ b
          → apart Request.rtag (rspacing (owner (adjusted b now t).guests a.guest).settings) (mine a.guest (adjusted b now t).waiting ++ (stamped_for b now a t ∷ [])) ≡ true
      own false e =
          let h = owner t.guests a.guest in
          snoc_spaced false (reserved h.settings) refl (orderly_is h (mine a.guest t.waiting) (any_orderly t s a.guest)).reservations
      own true e = rw (empty_is (mine a.guest (adjusted true now t).waiting) (adjusted-idle t now true a.guest ∙ e))

      go : (c : Bool) → of g (stamped_for b now a t) ≡ c
          → apart Request.rtag (rspacing (owner (adjusted b now t).guests g).settings) (mine g (adjusted b now t).waiting ++ (if of g (stamped_for b now a t) then stamped_for b now a t ∷ [] else [])) ≡ true
      go true z = rw (z, ← eqb-true a.guest g z) (own b e)
      go false z = rw (z, append-nil (mine g (adjusted b now t).waiting)) (adjusted-spaced t now b apt g)

-- Before the choice an accepted event whose rho is at least 1 keeps the tags apart.
pub enter-spaced : (t : Table) (e : Event) → accepted t e ≡ true → rho_some e ≡ true → Spaced t → Spaced (enter t e)
unfolding enter arrive complete wait
enter-spaced t (Arrival a now) h r apt = arrive_as-spaced t (accepted-finds t (Arrival a now) h) a now (leb-true 1 a.rho r) apt (idle t a.guest) refl
enter-spaced t (Completion f now) h r apt = apt
enter-spaced t (Tick now) h r apt = apt

-- THE CHOICE

module _ (t : Table) (s : Sound t) (apt : Spaced t) (p : Request) (v : List Request) (c : Goes t p v) where
  -- a send
  sending-spaced : Spaced (sending t p v)
  unfolding sending
  sending-spaced g =
      let gap = rspacing (owner t.guests g).settings in
      (elim (of g p) as (λ b. apart Request.rtag gap (if b then p ∷ mine g v else mine g v) ≡ true → apart Request.rtag gap (mine g v) ≡ true)
      [ true ↦ apart_tail Request.rtag gap gap p (mine g v) | false ↦ λ e. e ])
      (rw (c.first g) at (apt g))

  -- no tag that waits of its guest is below what it drops by
  pub drop-low : all (λ q. leb (drop_of t p) q.rtag) (mine p.guest v) ≡ true
  drop-low =
      let gap = rspacing (owner t.guests p.guest).settings in
      apart_above Request.rtag gap gap (drop_of t p) p (mine p.guest v) (omega arith) (rw (sent_first t s p v c) at (apt p.guest))

  -- so its next number drops alike
  pub next_drops : next_of (sending t p v) p ≡ (owner t.guests p.guest).rnext - drop_of t p
  unfolding sending
  next_drops =
      let h = owner t.guests p.guest in
      let o = orderly_is h (mine p.guest t.waiting) (any_orderly t s p.guest) in
      resumed-drop h.settings (drop_of t p) (reserved h.settings) refl p (mine p.guest v) h.rnext (rw (sent_first t s p v c) at o.reservations) drop-low

  -- a send and the drop
  pub dropped-spaced : Spaced (dropped p (sending t p v))
  unfolding earlier sending
  dropped-spaced g = rw (same-owner (dropped p u) u (dropped-settings p u) g) (go (eqb g p.guest) refl)
    where
      u : Table
      u = sending t p v

      go : (b : Bool) → eqb g p.guest ≡ b → apart Request.rtag (rspacing (owner u.guests g).settings) (mine g (dropped p u).waiting) ≡ true
      go true e =
          let gap = rspacing (owner t.guests p.guest).settings in
          rw (eqb-true g p.guest e, dropped-own p u)
          (apart-drop Request.rtag gap gap (earlier (drop_of u p)) (λ q. refl) (λ q. refl) (drop_of u p) (λ q. refl) (mine p.guest v) drop-low (sending-spaced p.guest))
      go false e = rw (dropped-others p u g e) (sending-spaced g)

-- The choice keeps the tags apart.
pub choice-spaced : (t : Table) → Sound t → Spaced t → Spaced (choice t).table
choice-spaced t s apt =
    choice_by (λ r. Spaced r.table) t apt
    (λ p v f e. sending-spaced t s apt p v (due-goes t s p v e))
    (λ p v f n e. dropped-spaced t s apt p v (open_goes t s p v e))

-- A STEP AND A RUN

-- Every event whose rho is at least 1 keeps the tags apart,
pub step-spaced : (t : Table) (e : Event) → rho_some e ≡ true → Spaced t → Spaced (step t e).table
step-spaced t e r apt = go (accepted t e) refl
  where
    go : (b : Bool) → accepted t e ≡ b → Spaced (step t e).table
    go true a = rw (accepted-step t e a) (choice-spaced (enter t e) (enter-sound t e a) (enter-spaced t e a r apt))
    go false a = rw (refused_keeps t e a) apt

-- and so does any run of them.
pub run-spaced : (es : List Event) (t : Table) → all rho_some es ≡ true → Spaced t → Spaced (after t es)
unfolding after
run-spaced [] t r apt = apt
run-spaced (e ∷ es) t r apt = let c = both (rho_some e) (all rho_some es) r in run-spaced es (step t e).table c.1 (step-spaced t e c.0 apt)
