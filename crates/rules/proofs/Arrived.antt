-- What an accepted event does before the choice is what document 01 says of it, and it says that of one table only. Assumes nothing.
use mathlib.Core.Path.{◌≡◌, refl, sym, ap, ◌∙◌}
use mathlib.Core.Bool.{Bool, true, false, not, true≢false, false≢true}
use mathlib.Core.List.{List, [], ◌∷◌, ◌++◌, map}
use mathlib.Core.Logic.{◌⊎◌, inl, inr, ⊎_elim}
use Prim.Native.Nat.{ℕ, zero, suc, ◌+◌, ◌-◌, ◌≤◌, ◌<◌}
use native.Mathlib.Omega.{arith}
use native.Mathlib.Nat.{zero-add}
use lib.Dec.{leb, eqb}
use lib.ListN.{length, get_or, take, drop, length-append, get_or-append}
use lib.Seq.{ext_get_or, get_or_at, get_or-set_same, get_or-set_other, split_at}
use borrow.Author.Tests.{leb-true, leb-false, le-leb, eqb-true, eqb-false, not-true, not-false}
use Rattle.lists.specs.Words.{if◌then◌else◌, all, empty, without}
use Rattle.lists.specs.WordsLaws.{both, all-at, places_all, all_filter, none_left, get_or-each, lowest-of, lowest_under}
use Rattle.lists.specs.Tab.{remove_at, lt_or_le}
use Rattle.rules.specs.Numbers.{raised_by}
use Rattle.rules.specs.Tables.{Guest, Request, Flight, Table, reserved, limited, rplain, lplain, splain, rspacing, lspacing, sspacing, nobodys, owner, of, mine, idle, name, same}
use Rattle.rules.specs.Sound.{kept, sound}
use Rattle.rules.specs.Events.{Arriving, Event, Arrival, Completion, Tick, smallest, shifted, shifted_next, adjusted, tag_if, back, share_tag, stamped, following, placed, raised, stamped_for, arrive_as, arrive, complete, wait, enter}
use Rattle.rules.specs.Refusals.{tests, event_tests, accepted}
use Rattle.rules.specs.Choice.{Result, choice}
use Rattle.rules.specs.Run.{step}
use Rattle.rules.specs.Chosen.{blank, at, Chosen}
use Rattle.rules.specs.Arrived.{Idle, Busy, Smallest, Moved, Given, arrives_at, last_of, Arrived, Completed, Entered}
use Rattle.rules.proofs.Judged.{passed}
use Rattle.rules.proofs.Conditions.{same_is}
use Rattle.rules.proofs.Chains.{kept_above}
use Rattle.rules.proofs.Credit.{back_is, back_once}
use Rattle.rules.proofs.Raises.{raised_is, raised_once}
use Rattle.rules.proofs.SameSettings.{same_count, same-owner, adjusted-settings, enter-settings}
use Rattle.rules.proofs.Facts.{Sound, orderly_is, is_sound}
use Rattle.rules.proofs.ArriveSound.{adjusted-length, adjusted-owner}
use Rattle.rules.proofs.EnterSound.{accepted-finds, enter_time}
use Rattle.rules.proofs.StepSound.{accepted-step}
use Rattle.rules.proofs.Chosen.{chosen_once, step_chosen}
use Rattle.rules.proofs.InFlight.{enter_flight, closes_up}

-- PLACES

-- not all pass: there is a place whose entry does not
some_not : {A : Type 0} (f : A → Bool) (l : List A) (d : A) → all f l ≡ false → (j : ℕ) × (j < length l) × (f (get_or l j d) ≡ false)
some_not f [] d h = absurd (true≢false h)
some_not {A} f (x ∷ l) d h = go (f x) refl (λ k. some_not f l d k)
  where
    go : (b : Bool) → f x ≡ b → (all f l ≡ false → (j : ℕ) × (j < length l) × (f (get_or l j d) ≡ false))
        → (j : ℕ) × (j < length (x ∷ l)) × (f (get_or (x ∷ l) j d) ≡ false)
    go true e k = let (j, h, n) = k (rw e at h) in (suc j, omega arith, n)
    go false e k = (0, omega arith, e)

-- a changed list, at a place
map_at : {A : Type 0} (f : A → A) (l : List A) (i : ℕ) (d : A) → i < length l → get_or (map f l) i d ≡ f (get_or l i d)
map_at f [] i d h = absurd (omega arith)
map_at f (x ∷ l) zero d h = refl
map_at f (x ∷ l) (suc i) d h = map_at f l i d (omega arith)

-- a list with one place taken out is what stands before it and what stands behind it
taken_is : {A : Type 0} (i : ℕ) (l : List A) → remove_at i l ≡ take i l ++ drop (suc i) l
taken_is zero [] = refl
taken_is (suc i) [] = refl
taken_is zero (x ∷ l) = refl
taken_is (suc i) (x ∷ l) = ap (x ∷◌) (taken_is i l)

-- IDLE AND BUSY, and the smallest share tag

module _ (t : Table) where
  -- the test says which of the two a guest is
  pub idle_is : (g : ℕ) → idle t g ≡ true → Idle t g
  unfolding idle
  idle_is g e i h o =
      eqb-false (at t.waiting i).guest g
      (not-true (of g (at t.waiting i)) (all-at (λ q. not (of g q)) t.waiting blank (sym (none_left (of g) t.waiting) ∙ e) i h)) o

  pub busy_is : (g : ℕ) → idle t g ≡ false → Busy t g
  unfolding idle
  busy_is g e =
      let (i, h, n) = some_not (λ q. not (of g q)) t.waiting blank (sym (none_left (of g) t.waiting) ∙ e) in
      record { place = i; inside = h; its_own = eqb-true (at t.waiting i).guest g (not-false (of g (at t.waiting i)) n) }

  -- no guest is both
  not_both : (g : ℕ) → Idle t g → Busy t g → ⊥
  not_both g i b = i b.place b.inside b.its_own

  pub is_idle : (g : ℕ) → Idle t g → idle t g ≡ true
  is_idle g i = go (idle t g) refl
    where
      go : (b : Bool) → idle t g ≡ b → b ≡ true
      go true e = refl
      go false e = absurd (not_both g i (busy_is g e))

  pub is_busy : (g : ℕ) → Busy t g → idle t g ≡ false
  is_busy g b = go (idle t g) refl
    where
      go : (c : Bool) → idle t g ≡ c → c ≡ false
      go true e = absurd (not_both g (idle_is g e) b)
      go false e = refl

  -- where something waits there is a smallest share tag
  pub smallest_is : 0 < length t.waiting → Smallest t (smallest t)
  smallest_is h =
      let (i, k, e) = lowest-of Request.stag t.waiting blank h in
      record { place = i; inside = k; its_tag = e; none_smaller = λ j l. lowest_under Request.stag t.waiting blank j l }

  -- and only one number is that
  smallest_once : (m n : ℕ) → Smallest t m → Smallest t n → m ≡ n
  smallest_once m n a b =
      omega (arith, a.none_smaller b.place b.inside, b.none_smaller a.place a.inside, a.its_tag, b.its_tag)

-- where something of a guest waits, its next share number is not below the smallest share tag
next-least : (spacing : Request → ℕ) (m : ℕ) (l : List Request) (n : ℕ) → all (λ q. leb m q.stag) l ≡ true → empty l ≡ false
    → kept true Request.stag spacing spacing l n ≡ true → m ≤ n
next-least spacing m [] n a e k = absurd (true≢false e)
next-least spacing m (q ∷ l) n a e k =
    let h = leb-true m q.stag (both (leb m q.stag) (all (λ q. leb m q.stag) l) a).0 in
    (kept_above Request.stag spacing spacing m q l n (omega arith) (omega arith) k).1

below_next : (t : Table) → Sound t → (m : ℕ) → Smallest t m → (g : ℕ) → g < length t.guests → Busy t g → m ≤ (owner t.guests g).snext
unfolding idle
below_next t s m least g h u =
    next-least (sspacing (owner t.guests g).settings) m (mine g t.waiting) (owner t.guests g).snext
    (all_filter (λ q. leb m q.stag) (of g) t.waiting
    (places_all (λ q. leb m q.stag) t.waiting blank (λ j k. le-leb m (at t.waiting j).stag (least.none_smaller j k))))
    (is_busy t g u)
    (orderly_is (owner t.guests g) (mine g t.waiting) (s.guests_orderly g h)).shares

-- AN ARRIVAL, at places

module _ (t : Table) (now : ℕ) (a : Arriving) where
  -- a request that waited, and a guest, after the shares are settled
  abbrev settled_tag : Bool → Request → Request
  settled_tag b q = if b then shifted now (smallest t) q else q

  abbrev settled_next : Bool → ℕ → Guest → Guest
  settled_next b g h = if b then (if idle t g then h else shifted_next now (smallest t) h) else h

  adjusted-waits : (b : Bool) (i : ℕ) → i < length t.waiting → at (adjusted b now t).waiting i ≡ settled_tag b (at t.waiting i)
  unfolding adjusted
  adjusted-waits false i h = refl
  adjusted-waits true i h = map_at (shifted now (smallest t)) t.waiting i blank h

  adjusted_owns : (b : Bool) (g : ℕ) → g < length t.guests → owner (adjusted b now t).guests g ≡ settled_next b g (owner t.guests g)
  unfolding adjusted
  adjusted_owns false g h = refl
  adjusted_owns true g h = get_or-each (λ i h. if idle t i then h else shifted_next now (smallest t) h) 0 t.guests g nobodys h ∙ rw (zero-add g)

  -- those that waited stand where they stood
  arrived-waits : (b : Bool) (i : ℕ) → i < length t.waiting → at (arrive_as b now a t).waiting i ≡ settled_tag b (at t.waiting i)
  unfolding arrive_as placed
  arrived-waits b i h =
      get_or-append (adjusted b now t).waiting (stamped_for b now a t ∷ []) blank i (rw (adjusted-length t now b) h) ∙ adjusted-waits b i h

  -- the new one stands behind them
  arrived_last : (b : Bool) → last_of t (arrive_as b now a t) ≡ stamped_for b now a t
  unfolding arrive_as placed
  arrived_last b = get_or_at (adjusted b now t).waiting (stamped_for b now a t) [] blank (length t.waiting) (adjusted-length t now b)

  -- and there is no other
  arrived_long : (b : Bool) → length (arrive_as b now a t).waiting ≡ length t.waiting + 1
  unfolding arrive_as placed
  arrived_long b = omega (arith, length-append (adjusted b now t).waiting (stamped_for b now a t ∷ []), adjusted-length t now b)

  -- its guest has the next numbers that follow it
  arrived-own : (b : Bool) → idle t a.guest ≡ b → a.guest < length t.guests
      → owner (arrive_as b now a t).guests a.guest ≡ following (stamped_for b now a t) (arrives_at t a)
  unfolding arrive_as placed stamped
  arrived-own b e k =
      get_or-set_same (adjusted b now t).guests a.guest (following (stamped_for b now a t) (owner (adjusted b now t).guests a.guest)) nobodys
      (rw (same_count (adjusted b now t) t (adjusted-settings b now t)) k)
      ∙ ap (following (stamped_for b now a t)) (adjusted-owner t now b a.guest e k)

  -- the other guests have theirs
  arrived_owns : (b : Bool) (g : ℕ) → g < length t.guests → (g ≡ a.guest → ⊥)
      → owner (arrive_as b now a t).guests g ≡ settled_next b g (owner t.guests g)
  unfolding arrive_as placed stamped
  arrived_owns b g h n =
      get_or-set_other (adjusted b now t).guests a.guest g (following (stamped_for b now a t) (owner (adjusted b now t).guests a.guest)) nobodys n
      ∙ adjusted_owns b g h

  -- what the settling of the shares leaves of a request, and of a guest
  tag_stays : {A : Type 0} (f : Request → A) → ((q : Request) → f (shifted now (smallest t) q) ≡ f q)
      → (b : Bool) (i : ℕ) → i < length t.waiting → f (at (arrive_as b now a t).waiting i) ≡ f (at t.waiting i)
  tag_stays f s false i h = ap f (arrived-waits false i h)
  tag_stays f s true i h = ap f (arrived-waits true i h) ∙ s (at t.waiting i)

  next_stays : (f : Guest → ℕ) → ((h : Guest) → f (shifted_next now (smallest t) h) ≡ f h)
      → (b : Bool) (g : ℕ) → g < length t.guests → (g ≡ a.guest → ⊥) → f (owner (arrive_as b now a t).guests g) ≡ f (owner t.guests g)
  next_stays f s false g h n = ap f (arrived_owns false g h n)
  next_stays f s true g h n =
      ap f (arrived_owns true g h n)
      ∙ elim (idle t g) as (λ c. f (if c then owner t.guests g else shifted_next now (smallest t) (owner t.guests g)) ≡ f (owner t.guests g))
      [ true ↦ refl | false ↦ s (owner t.guests g) ]

  -- the shares, where the guest is idle and where it is not
  tags_move : (b : Bool) → idle t a.guest ≡ b → Idle t a.guest → (m : ℕ) → Smallest t m → (i : ℕ) → i < length t.waiting
      → Moved now m (at t.waiting i).stag (at (arrive_as b now a t).waiting i).stag
  unfolding shifted
  tags_move false e d m least i h = absurd (not_both t a.guest d (busy_is t a.guest e))
  tags_move true e d m least i h =
      let moved : (at (arrive_as true now a t).waiting i).stag ≡ (at t.waiting i).stag + now - smallest t = ap Request.stag (arrived-waits true i h) in
      omega (arith, smallest_once t m (smallest t) least (smallest_is t (omega arith)), least.none_smaller i h)

  tags-stay : (b : Bool) → idle t a.guest ≡ b → Busy t a.guest → (i : ℕ) → i < length t.waiting
      → (at (arrive_as b now a t).waiting i).stag ≡ (at t.waiting i).stag
  tags-stay false e u i h = ap Request.stag (arrived-waits false i h)
  tags-stay true e u i h = absurd (not_both t a.guest (idle_is t a.guest e) u)

  nexts_move : Sound t → (b : Bool) → idle t a.guest ≡ b → Idle t a.guest → (m : ℕ) → Smallest t m → (g : ℕ) → g < length t.guests → Busy t g
      → Moved now m (owner t.guests g).snext (owner (arrive_as b now a t).guests g).snext
  unfolding shifted_next
  nexts_move s false e d m least g h u = absurd (not_both t a.guest d (busy_is t a.guest e))
  nexts_move s true e d m least g h u =
      let is : owner (arrive_as true now a t).guests g ≡ shifted_next now (smallest t) (owner t.guests g) =
      arrived_owns true g h (λ z. not_both t a.guest d (rw z at u)) ∙ rw (is_busy t g u)
      in
      let moved : (owner (arrive_as true now a t).guests g).snext ≡ (owner t.guests g).snext + now - smallest t = ap Guest.snext is in
      omega (arith, smallest_once t m (smallest t) least (smallest_is t (omega (arith, u.inside))), below_next t s m least g h u)

  nexts_stay : (b : Bool) → idle t a.guest ≡ b → (g : ℕ) → g < length t.guests → (g ≡ a.guest → ⊥) → Busy t a.guest ⊎ Idle t g
      → (owner (arrive_as b now a t).guests g).snext ≡ (owner t.guests g).snext
  nexts_stay false e g h n c = ap Guest.snext (arrived_owns false g h n)
  nexts_stay true e g h n (inl u) = absurd (not_both t a.guest (idle_is t a.guest e) u)
  nexts_stay true e g h n (inr d) =
      let is : owner (arrive_as true now a t).guests g ≡ owner t.guests g = arrived_owns true g h n ∙ rw (is_idle t g d) in
      ap Guest.snext is

-- the tag given
given_is : (has : Bool) (now next tag : ℕ) → tag ≡ tag_if has now next → Given has now next tag
given_is true now next tag e = record { larger = λ z. e; none = λ z. absurd (true≢false z) }
given_is false now next tag e = record { larger = λ z. absurd (false≢true z); none = λ z. e }

-- An accepted arrival does what the description asks.
pub arrived : (t : Table) (a : Arriving) (now : ℕ) → accepted t (Arrival a now) ≡ true → Arrived t a now (enter t (Arrival a now))
unfolding enter arrive event_tests shifted shifted_next share_tag stamped raised following
arrived t a now h =
    let b = idle t a.guest in
    let s = accepted-finds t (Arrival a now) h in
    let same = enter-settings t (Arrival a now) in
    let known : a.guest < length t.guests = leb-false (length t.guests) a.guest (passed (tests false (not (sound t)) t (Arrival a now)) h 4) in
    let last = arrived_last t now a b in
    let own = arrived-own t now a b refl known in
    let x = arrives_at t a in
    record {
      share_tags_move = tags_move t now a b refl;
      share_nexts_move = nexts_move t now a s b refl;
      share_tags-stay = tags-stay t now a b refl;
      share_nexts_stay = nexts_stay t now a b refl;
      reservation_tag = λ n r. given_is (reserved x.settings) now n (last_of t (arrive_as b now a t)).rtag
          (ap Request.rtag last ∙ ap (tag_if (reserved x.settings) now) (sym (raised_once a.rho (rplain x.settings) x.rnext n r)));
      limit_tag = λ n r. given_is (limited x.settings) now n (last_of t (arrive_as b now a t)).ltag
          (ap Request.ltag last ∙ ap (tag_if (limited x.settings) now) (sym (raised_once a.delta (lplain x.settings) x.lnext n r)));
      share_tag = λ n m r z u. ap Request.stag last
          ∙ rw (is_busy t a.guest u, sym (raised_once a.delta (splain x.settings) x.snext n r), sym (back_once now x.settings m z));
      share_tag-idle = λ n m r z d. ap Request.stag last
          ∙ rw (is_idle t a.guest d, sym (raised_once a.delta (splain x.settings) x.snext n r), sym (back_once now x.settings m z));
      reservation_next = ap Guest.rnext own ∙ ap (λ (q : Request). q.rtag + rspacing x.settings q) (sym last);
      limit_next = ap Guest.lnext own ∙ ap (λ (q : Request). q.ltag + lspacing x.settings q) (sym last);
      share_next = ap Guest.snext own ∙ ap (λ (q : Request). q.stag + sspacing x.settings q) (sym last);
      one_more = arrived_long t now a b;
      placed_last = ap name last;
      cost_kept = ap Request.cost last;
      names-stay = tag_stays t now a name (λ q. refl) b;
      reservation_tags-stay = tag_stays t now a Request.rtag (λ q. refl) b;
      costs_stay = tag_stays t now a Request.cost (λ q. refl) b;
      limit_tags-stay = tag_stays t now a Request.ltag (λ q. refl) b;
      as_many_guests = same_count (enter t (Arrival a now)) t same;
      settings-stay = λ g k. same-owner (enter t (Arrival a now)) t same g;
      reservation_nexts_stay = next_stays t now a Guest.rnext (λ h. refl) b;
      limit_nexts_stay = next_stays t now a Guest.lnext (λ h. refl) b;
      time_set = enter_time t (Arrival a now);
      setup_stays = same.setup;
      flight_stays = enter_flight t (Arrival a now);
    }

-- ONE TABLE ONLY

given_once : (has : Bool) (now next p q : ℕ) → Given has now next p → Given has now next q → p ≡ q
given_once true now next p q x y = x.larger refl ∙ sym (y.larger refl)
given_once false now next p q x y = x.none refl ∙ sym (y.none refl)

-- a request is its name, its tags and its cost, and a guest its settings and its next numbers
request_same : (p q : Request) → name p ≡ name q → p.rtag ≡ q.rtag → p.ltag ≡ q.ltag → p.stag ≡ q.stag → p.cost ≡ q.cost → p ≡ q
request_same p q n r l s c = λ i. record { guest = (n i).guest; id = (n i).id; rtag = r i; ltag = l i; stag = s i; cost = c i }

guest-same : (h k : Guest) → h.settings ≡ k.settings → h.rnext ≡ k.rnext → h.lnext ≡ k.lnext → h.snext ≡ k.snext → h ≡ k
guest-same h k n r l s = λ i. record { settings = n i; rnext = r i; lnext = l i; snext = s i }

module _ (t : Table) (a : Arriving) (now : ℕ) (u v : Table) (x : Arrived t a now u) (y : Arrived t a now v) where
  -- two tables that meet it have the same share tags waiting
  same-tags : (b : Bool) → idle t a.guest ≡ b → (i : ℕ) → i < length t.waiting → (at u.waiting i).stag ≡ (at v.waiting i).stag
  same-tags true e i h =
      let d = idle_is t a.guest e in
      let m = smallest_is t (omega arith) in
      omega (arith, x.share_tags_move d (smallest t) m i h, y.share_tags_move d (smallest t) m i h)
  same-tags false e i h = let d = busy_is t a.guest e in x.share_tags-stay d i h ∙ sym (y.share_tags-stay d i h)

  -- the same share tag of the new one
  same_share : (b : Bool) → idle t a.guest ≡ b → (last_of t u).stag ≡ (last_of t v).stag
  same_share true e =
      let d = idle_is t a.guest e in
      let s = (arrives_at t a).settings in
      let n = raised_by a.delta (splain s) (arrives_at t a).snext in
      let r = raised_is a.delta (splain s) (arrives_at t a).snext in
      x.share_tag-idle n (back now s) r (back_is now s) d ∙ sym (y.share_tag-idle n (back now s) r (back_is now s) d)
  same_share false e =
      let d = busy_is t a.guest e in
      let s = (arrives_at t a).settings in
      let n = raised_by a.delta (splain s) (arrives_at t a).snext in
      let r = raised_is a.delta (splain s) (arrives_at t a).snext in
      x.share_tag n (back now s) r (back_is now s) d ∙ sym (y.share_tag n (back now s) r (back_is now s) d)

  -- and the same request at each place
  same_last : last_of t u ≡ last_of t v
  same_last =
      let h = arrives_at t a in
      let n = raised_by a.rho (rplain h.settings) h.rnext in
      let m = raised_by a.delta (lplain h.settings) h.lnext in
      let r = raised_is a.rho (rplain h.settings) h.rnext in
      let l = raised_is a.delta (lplain h.settings) h.lnext in
      request_same (last_of t u) (last_of t v) (x.placed_last ∙ sym y.placed_last)
      (given_once (reserved h.settings) now n (last_of t u).rtag (last_of t v).rtag (x.reservation_tag n r) (y.reservation_tag n r))
      (given_once (limited h.settings) now m (last_of t u).ltag (last_of t v).ltag (x.limit_tag m l) (y.limit_tag m l))
      (same_share (idle t a.guest) refl) (x.cost_kept ∙ sym y.cost_kept)

  same_request : (i : ℕ) → i < length u.waiting → at u.waiting i ≡ at v.waiting i
  same_request i h = ⊎_elim before (λ l. let e : i ≡ length t.waiting = omega (arith, x.one_more) in rw e same_last) (lt_or_le i (length t.waiting))
    where
      before : i < length t.waiting → at u.waiting i ≡ at v.waiting i
      before l =
          request_same (at u.waiting i) (at v.waiting i) (x.names-stay i l ∙ sym (y.names-stay i l))
          (x.reservation_tags-stay i l ∙ sym (y.reservation_tags-stay i l)) (x.limit_tags-stay i l ∙ sym (y.limit_tags-stay i l))
          (same-tags (idle t a.guest) refl i l) (x.costs_stay i l ∙ sym (y.costs_stay i l))

  -- the same next share numbers
  same_nexts : (b : Bool) → idle t a.guest ≡ b → (g : ℕ) → g < length t.guests → (g ≡ a.guest → ⊥) → (c : Bool) → idle t g ≡ c
      → (owner u.guests g).snext ≡ (owner v.guests g).snext
  same_nexts false e g h n c f = let d = inl (busy_is t a.guest e) in x.share_nexts_stay g h n d ∙ sym (y.share_nexts_stay g h n d)
  same_nexts true e g h n true f = let d = inr (idle_is t g f) in x.share_nexts_stay g h n d ∙ sym (y.share_nexts_stay g h n d)
  same_nexts true e g h n false f =
      let d = idle_is t a.guest e in
      let w = busy_is t g f in
      let m = smallest_is t (omega (arith, w.inside)) in
      omega (arith, x.share_nexts_move d (smallest t) m g h w, y.share_nexts_move d (smallest t) m g h w)

  -- and the same guests
  same-own : a.guest < length t.guests → owner u.guests a.guest ≡ owner v.guests a.guest
  same-own h =
      guest-same (owner u.guests a.guest) (owner v.guests a.guest) (x.settings-stay a.guest h ∙ sym (y.settings-stay a.guest h))
      (x.reservation_next ∙ ap (λ (q : Request). q.rtag + rspacing (arrives_at t a).settings q) same_last ∙ sym y.reservation_next)
      (x.limit_next ∙ ap (λ (q : Request). q.ltag + lspacing (arrives_at t a).settings q) same_last ∙ sym y.limit_next)
      (x.share_next ∙ ap (λ (q : Request). q.stag + sspacing (arrives_at t a).settings q) same_last ∙ sym y.share_next)

  same-guest : (g : ℕ) → g < length t.guests → (b : Bool) → eqb g a.guest ≡ b → owner u.guests g ≡ owner v.guests g
  same-guest g h true e = let z = eqb-true g a.guest e in rw z (same-own (rw z at h))
  same-guest g h false e =
      let n = eqb-false g a.guest e in
      guest-same (owner u.guests g) (owner v.guests g) (x.settings-stay g h ∙ sym (y.settings-stay g h))
      (x.reservation_nexts_stay g h n ∙ sym (y.reservation_nexts_stay g h n)) (x.limit_nexts_stay g h n ∙ sym (y.limit_nexts_stay g h n))
      (same_nexts (idle t a.guest) refl g h n (idle t g) refl)

  -- The description of an arrival fits one table only.
  pub arrived_once : u ≡ v
  arrived_once = λ i. record { setup = p i; time = n i; guests = g i; waiting = w i; flight = f i }
    where
      p : u.setup ≡ v.setup
      p = x.setup_stays ∙ sym y.setup_stays

      n : u.time ≡ v.time
      n = x.time_set ∙ sym y.time_set

      f : u.flight ≡ v.flight
      f = x.flight_stays ∙ sym y.flight_stays

      w : u.waiting ≡ v.waiting
      w = ext_get_or blank u.waiting v.waiting (x.one_more ∙ sym y.one_more) same_request

      g : u.guests ≡ v.guests
      g =
          ext_get_or nobodys u.guests v.guests (x.as_many_guests ∙ sym y.as_many_guests)
          (λ j h. same-guest j (rw x.as_many_guests at h) (eqb j a.guest) refl)

-- A COMPLETION AND A TICK

-- what is taken out stands at one place only
out_is : (t : Table) → Sound t → (f : Flight) (now : ℕ) (i : ℕ) → i < length t.flight → get_or t.flight i f ≡ f
    → without (same f) t.flight ≡ remove_at i t.flight
out_is t s f now i h e =
    closes_up t (is_sound t s) f now (take i t.flight) (drop (suc i) t.flight)
    (split_at t.flight i f h ∙ ap (λ (k : Flight). take i t.flight ++ k ∷ drop (suc i) t.flight) e)
    ∙ sym (taken_is i t.flight)

-- An accepted completion does what the description asks.
pub completed : (t : Table) (f : Flight) (now : ℕ) → accepted t (Completion f now) ≡ true → Completed t f now (enter t (Completion f now))
unfolding enter complete event_tests
completed t f now h =
    let (i, k, o) = some_not (λ b. not (same f b)) t.flight f (passed (tests false (not (sound t)) t (Completion f now)) h 10) in
    let e : get_or t.flight i f ≡ f = sym (same_is f (get_or t.flight i f) (not-false (same f (get_or t.flight i f)) o)) in
    record {
      place = i;
      inside = k;
      named = e;
      taken_out = out_is t (accepted-finds t (Completion f now) h) f now i k e;
      time_set = refl;
      setup_stays = refl;
      guests_stay = refl;
      waiting_stays = refl;
    }

-- AN EVENT

-- Every accepted event does, before the choice, what the description asks.
pub entered : (t : Table) (e : Event) → accepted t e ≡ true → Entered t e (enter t e)
unfolding enter wait
entered t (Arrival a now) h = arrived t a now h
entered t (Completion f now) h = completed t f now h
entered t (Tick now) h = record { time_set = refl; setup_stays = refl; guests_stay = refl; waiting_stays = refl; flight_stays = refl }

-- And the description fits that table only.
pub entered_once : (t : Table) (e : Event) (u : Table) → accepted t e ≡ true → Entered t e u → u ≡ enter t e
unfolding enter complete wait
entered_once t (Arrival a now) u h x = arrived_once t a now u (enter t (Arrival a now)) x (arrived t a now h)
entered_once t (Completion f now) u h x =
    let o = x.taken_out ∙ sym (out_is t (accepted-finds t (Completion f now) h) f now x.place x.inside x.named) in
    λ i. record { setup = x.setup_stays i; time = x.time_set i; guests = x.guests_stay i; waiting = x.waiting_stays i; flight = o i }
entered_once t (Tick now) u h x =
    λ i. record { setup = x.setup_stays i; time = x.time_set i; guests = x.guests_stay i; waiting = x.waiting_stays i; flight = x.flight_stays i }

-- So every accepted event is these plain facts, then those of the choice
pub step_described : (t : Table) (e : Event) → accepted t e ≡ true → (u : Table) × Entered t e u × Chosen u (step t e)
step_described t e h = (enter t e, entered t e h, step_chosen t e h)

-- and they fit one outcome only.
pub step_once : (t : Table) (e : Event) (u : Table) (r : Result) → accepted t e ≡ true → Entered t e u → Chosen u r → r ≡ step t e
step_once t e u r h x c = chosen_once u r c ∙ ap choice (entered_once t e u h x) ∙ sym (accepted-step t e h)
