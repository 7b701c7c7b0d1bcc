-- Document 02, K3: "The 2^62 − 1 case of 01 is refused 9 only while the first request still waits or the guest has a reservation or a limit", exactly and
-- from any sound table: a second arrival of a guest at the ceiling, at once, or after any run of other events. K6: the "case is for credit 0", of the guest
-- itself at once, and of every guest after a run: Bursts.antt has one where it is refused 9 for another guest's credit. Document 02, K14: for a rho of 0 the next
-- reservation number falls, so the second arrival's rho is at least 1. Assumes nothing.
use mathlib.Core.Path.{◌≡◌, refl, sym, ap, ◌∙◌}
use mathlib.Core.Bool.{Bool, true, false, not, true≢false, false≢true}
use mathlib.Core.List.{List, [], ◌∷◌, ◌++◌, map, append-nil, Memᴰ}
use mathlib.Core.Logic.{◌↔◌, ◌⊎◌, inl, inr, ⊎_elim}
use Prim.Native.Nat.{ℕ, suc, ◌+◌, ◌-◌, ◌≤◌, ◌<◌, max, min}
use native.Mathlib.Omega.{arith}
use lib.Dec.{leb, eqb}
use lib.ListN.{length, get_or, drop, length-append, get_or-eq_default}
use borrow.Author.Tests.{leb-true, leb-false, le-leb, ltb-true, lt-ltb, eqb-true, eq-eqb, not-true, not-false}
use Rattle.lists.specs.Words.{if◌then◌else◌, all, empty}
use Rattle.lists.specs.WordsLaws.{both, join, all_append, all_map, all_mid, all-at, all_same, all-each}
use Rattle.lists.specs.Tab.{lt_or_le}
use Rattle.rules.specs.Numbers.{ceiling, raised_by}
use Rattle.rules.specs.Tables.{Request, Table, reserved, limited, rplain, lplain, splain, nobodys, owner, settings_of, of, mine, idle, name, names}
use Rattle.rules.specs.declared.Settings.{Settings}
use Rattle.rules.specs.declared.Guest.{Guest}
use Rattle.rules.specs.declared.Flight.{Flight}
use Rattle.rules.specs.Sound.{counted, settled, ranges, lawful, fair, sound}
use Rattle.rules.specs.Events.{moment, called_by, smallest, shifted, adjusted, busy_tag, share_tag, stamped, placed, raised, stamped_for, arrive_as, arrive, complete, wait, enter}
use Rattle.rules.specs.declared.Arriving.{Arriving}
use Rattle.rules.specs.declared.Event.{Event}
use Rattle.rules.specs.declared.Event.TheVariants.{Arrival, Completion, Tick}
use Rattle.rules.specs.Refusals.{tests, event_tests, accepted}
use Rattle.rules.specs.Refused.{FirstOf, Passing, given, moved, Good, Fair, Spread, event_cases, call_cases}
use Rattle.rules.specs.Choice.{nobody, picked, least, due_at, due, open?, sending, earlier, renewed, drop_of, next_of, dropped, choice}
use Rattle.rules.specs.Run.{step, after, answers}
use Rattle.rules.specs.Order.{waits, brings, sends, came, left}
use Rattle.rules.specs.Chosen.{blank, at}
use Rattle.rules.specs.Arrived.{Idle, Busy, Smallest, Back, Arrived, arrives_at, last_of}
use Rattle.rules.specs.declared.Answer.{Answer}
use Rattle.rules.specs.declared.Answer.TheVariants.{Nothing, Sent, Refused}
use Rattle.rules.proofs.Judged.{passed}
use Rattle.rules.proofs.Spacings.{cost_some, down-some, up-some}
use Rattle.rules.proofs.Conditions.{settled-good}
use Rattle.rules.proofs.SameSettings.{same_count, same-owner, choice-settings, enter-settings, step-settings}
use Rattle.rules.proofs.Facts.{Sound, is_sound, lawful_is}
use Rattle.rules.proofs.Firsts.{First, open_passes, first_open}
use Rattle.rules.proofs.Picks.{Goes, due-goes, open_goes, none_ok}
use Rattle.rules.proofs.Drops.{dropped-owner, dropped_other}
use Rattle.rules.proofs.ChoiceSound.{sent_known, choice-sound}
use Rattle.rules.proofs.ArriveSound.{smallest-all}
use Rattle.rules.proofs.EnterSound.{accepted-finds, accepted-fits, accepted-later, enter_time, enter-sound}
use Rattle.rules.proofs.StepSound.{accepted-step, refused_keeps}
use Rattle.rules.proofs.Bounds.{choice_time}
use Rattle.rules.proofs.Cases.{choice_by}
use Rattle.rules.proofs.InOrder.{step_waits, in_order_lem}
use Rattle.rules.proofs.Credit.{back_is, back_0, not_before}
use Rattle.rules.proofs.Raises.{raised_is, raised_above}
use Rattle.rules.proofs.Arrived.{idle_is, busy_is, is_idle, is_busy, smallest_is, arrived}
use Rattle.rules.proofs.Answered.{Prints, refused_exactly}

-- WHAT IS SAID

-- document 02, K3: the first request "still waits", here the one of this name
pub record StillWaits (u : Table) (f : Flight) : Type 0 where
  pub place : ℕ
  pub inside : place < length u.waiting
  pub its_name : name (at u.waiting place) ≡ f

-- document 02, K3: "the guest has a reservation or a limit"
abbrev pub Held : Table → ℕ → Type 0
Held u g = (0 < (owner u.guests g).settings.reservation) ⊎ (0 < (owner u.guests g).settings.limit)

-- document 02, K6: guest g has "credit 0"
abbrev pub NoCredit : Table → ℕ → Type 0
NoCredit u g = (owner u.guests g).settings.credit ≡ 0

-- every guest has it
abbrev pub NoneCredited : Table → Type 0
NoneCredited u = (g : ℕ) → g < length u.guests → NoCredit u g

-- another request of the guest that a comes from: its id, and the rest as b has it
abbrev pub another : Arriving → (id : ℕ) → Arriving → Arriving
another a i b = record { guest = a.guest; id = i; cost = b.cost; delta = b.delta; rho = b.rho }

-- "with a new id and room to wait", a cost that there is, and a delta and a rho that there are, rho not 0
pub record MayCome (u : Table) (b : Arriving) : Type 0 where
  pub fair_cost : Fair b.cost
  pub fair_delta : Spread b.delta b.rho
  pub some_rho : 1 ≤ b.rho
  pub new_id : Memᴰ (called_by b) (names u) → ⊥
  pub room-to-wait : length u.waiting < u.setup.capacity

-- the settings of a guest of a sound table are good
good-own : (t : Table) → Sound t → (g : ℕ) → g < length t.guests → Good (owner t.guests g).settings
unfolding ranges
good-own t s g h =
    let f : Guest → Bool = λ h. settled h.settings in
    let c = both (counted t.setup.depth (length t.guests) t.setup.capacity) (all f t.guests) s.in_range in
    (settled-good (owner t.guests g).settings).0 (all-at f t.guests _ c.1 g h)

-- with credit 0 share tags do not lie back
at_once : {s : Settings} {now : ℕ} → s.credit ≡ 0 → Back s now now
at_once {s} {now} e = rw (back_0 now s e) at (back_is now s)

-- where no guest has credit, a number that no guest has does not either
none-credited : (t : Table) → NoneCredited t → (g : ℕ) → NoCredit t g
none-credited t free g =
    ⊎_elim (free g) (λ l. ap (λ (h : Guest). h.settings.credit) (get_or-eq_default t.guests nobodys l)) (lt_or_le g (length t.guests))

-- and so after an event
step-free : (t : Table) (e : Event) → NoneCredited t → NoneCredited (step t e).table
step-free t e free g h =
    ap Settings.credit (same-owner (step t e).table t (step-settings t e) g) ∙ none-credited t free g

-- NEXT NUMBERS PAST THE CEILING

-- the next numbers that a guest has lie past the ceiling
record Past (h : Guest) : Type 0 where
  reservation : reserved h.settings ≡ true → ceiling < h.rnext
  limit : limited h.settings ≡ true → ceiling < h.lnext
  share : ceiling < h.snext

-- those of guest g of a table
abbrev PastOf : ℕ → Table → Type 0
PastOf g u = Past (owner u.guests g)

-- a sound table at the ceiling, with such a guest
record Last (g : ℕ) (u : Table) : Type 0 where
  is_sound : Sound u
  last_time : u.time ≡ ceiling
  known : g < length u.guests
  past : PastOf g u

-- the first arrival makes them so
first_past : (t : Table) (a : Arriving) → NoCredit t a.guest → accepted t (Arrival a ceiling) ≡ true → a.guest < length t.guests
    → PastOf a.guest (enter t (Arrival a ceiling))
unfolding event_tests
first_past t a free h k =
    let x = arrived t a ceiling h in
    let u = enter t (Arrival a ceiling) in
    let o = good-own t (accepted-finds t (Arrival a ceiling) h) a.guest k in
    let same = x.settings-stay a.guest k in
    let s = (arrives_at t a).settings in
    let c : fair (last_of t u).cost ≡ true = ap fair x.cost_kept ∙ not-false (fair a.cost) (passed (tests false (not (sound t)) t (Arrival a ceiling)) h 18) in
    record {
      reservation = λ r.
          let has : reserved s ≡ true = ap reserved (sym same) ∙ r in
          omega (
            arith,
            x.reservation_next,
            (x.reservation_tag _ (raised_is a.rho (rplain s) (arrives_at t a).rnext)).larger has,
            cost_some (last_of t u).cost (rplain s) c (down-some s.reservation (ltb-true 0 s.reservation has) o.reservations),
          );
      limit = λ r.
          let has : limited s ≡ true = ap limited (sym same) ∙ r in
          omega (arith, x.limit_next, (x.limit_tag _ (raised_is a.delta (lplain s) (arrives_at t a).lnext)).larger has, cost_some (last_of t u).cost (lplain s) c (up-some s.limit (ltb-true 0 s.limit has)));
      share = omega (
        arith,
        x.share_next,
        late (idle t a.guest) refl x,
        cost_some (last_of t u).cost (splain s) c (down-some s.shares (omega (arith, o.share_count.0)) o.share_count.1),
      );
    }
  where
    late : (b : Bool) → idle t a.guest ≡ b → Arrived t a ceiling (enter t (Arrival a ceiling)) → ceiling ≤ (last_of t (enter t (Arrival a ceiling))).stag
    late true e x =
        let h = arrives_at t a in
        omega (arith, x.share_tag-idle _ ceiling (raised_is a.delta (splain h.settings) h.snext) (at_once free) (idle_is t a.guest e))
    late false e x =
        let h = arrives_at t a in
        omega (arith, x.share_tag _ ceiling (raised_is a.delta (splain h.settings) h.snext) (at_once free) (busy_is t a.guest e))

-- the smallest share tag is no larger than the ceiling
smallest-fits : (t : Table) → Sound t → (m : ℕ) → Smallest t m → m ≤ ceiling
smallest-fits t s m l =
    let q = at t.waiting l.place in
    omega (arith, l.its_tag, (lawful_is q (all-at lawful t.waiting blank s.tags_fit l.place l.inside)).share)

-- what brings nothing of guest g is another guest's
other_guest : (g : ℕ) (a : Arriving) (now : ℕ) → brings g (Arrival a now) ≡ [] → g ≡ a.guest → ⊥
other_guest g a now e z =
    let one : (if eqb a.guest g then a.id ∷ [] else []) ≡ a.id ∷ [] = rw (eq-eqb a.guest g (sym z)) in
    omega (arith, ap length (sym one ∙ e))

-- the arrival of another guest
other_past : (g : ℕ) (t : Table) (a : Arriving) → accepted t (Arrival a ceiling) ≡ true → g < length t.guests → (g ≡ a.guest → ⊥) → PastOf g t
    → PastOf g (enter t (Arrival a ceiling))
other_past g t a h k n p =
    let x = arrived t a ceiling h in
    let same = x.settings-stay g k in
    record {
      reservation = λ r. omega (arith, x.reservation_nexts_stay g k n, p.reservation (ap reserved (sym same) ∙ r));
      limit = λ r. omega (arith, x.limit_nexts_stay g k n, p.limit (ap limited (sym same) ∙ r));
      share = go x (idle t a.guest) refl (idle t g) refl;
    }
  where
    go : Arrived t a ceiling (enter t (Arrival a ceiling)) → (b : Bool) → idle t a.guest ≡ b → (c : Bool) → idle t g ≡ c
        → ceiling < (owner (enter t (Arrival a ceiling)).guests g).snext
    go x false e c f = omega (arith, x.share_nexts_stay g k n (inl (busy_is t a.guest e)), p.share)
    go x true e true f = omega (arith, x.share_nexts_stay g k n (inr (idle_is t g f)), p.share)
    go x true e false f =
        let w = busy_is t g f in
        let m = smallest_is t (omega (arith, w.inside)) in
        omega (
          arith,
          x.share_nexts_move (idle_is t a.guest e) (smallest t) m g k w,
          p.share,
          smallest-fits t (accepted-finds t (Arrival a ceiling) h) (smallest t) m,
        )

-- any event that brings nothing of guest g
enter_past : (g : ℕ) (t : Table) (e : Event) → accepted t e ≡ true → moment e ≡ ceiling → g < length t.guests → brings g e ≡ [] → PastOf g t → PastOf g (enter t e)
unfolding enter complete wait
enter_past g t (Arrival a now) h c k b p = go now h c b
  where
    go : (n : ℕ) → accepted t (Arrival a n) ≡ true → n ≡ ceiling → brings g (Arrival a n) ≡ [] → PastOf g (enter t (Arrival a n))
    go n h c b =
        rw c (other_past g t a (rw c at h) k (other_guest g a n b) p)
enter_past g t (Completion f now) h c k b p = p
enter_past g t (Tick now) h c k b p = p

-- THE CHOICE AT THE CEILING: every reservation tag is due then, so a guest that has one is sent nothing by weight, and nothing drops

module _ (t : Table) (s : Sound t) (now : t.time ≡ ceiling) (q : Request) (v : List Request) (c : Goes t q v) where
  -- a request of a guest with a reservation that is open would have gone by it
  unreserved : least (due t) Request.rtag t.waiting ≡ nobody → open? t q ≡ true → reserved (settings_of t.guests q) ≡ true → ⊥
  unfolding due_at
  unreserved n o r =
      let k = c.split in
      let fit = lawful_is q (all_mid lawful k.before q k.after (rw k.stood at s.tags_fit)).0 in
      let due-now : due t q ≡ true = join (join r (le-leb q.rtag t.time (omega (arith, fit.reservation)))) (open_passes t q o) in
      let none : all (λ q. not (due t q)) (k.before ++ q ∷ k.after) ≡ true =
      ap (all (λ q. not (due t q))) (sym k.stood) ∙ none_ok (due t) Request.rtag t.waiting n
      in
      true≢false (sym due-now ∙ not-true (due t q) (all_mid (λ q. not (due t q)) k.before q k.after none).0)

  -- what a weight send leaves
  weight_past : least (due t) Request.rtag t.waiting ≡ nobody → open? t q ≡ true → (g : ℕ) → (b : Bool) → eqb g q.guest ≡ b → PastOf g t → PastOf g (dropped q (sending t q v))
  unfolding sending renewed
  weight_past n o g false e p =
      let is : owner (dropped q (sending t q v)).guests g ≡ owner t.guests g = dropped_other q (sending t q v) g e in
      record {
        reservation = λ r. rw is (p.reservation (ap (λ (h : Guest). reserved h.settings) (sym is) ∙ r));
        limit = λ r. rw is (p.limit (ap (λ (h : Guest). limited h.settings) (sym is) ∙ r));
        share = rw is p.share;
      }
  weight_past n o g true e p =
      let z = eqb-true g q.guest e in
      let is : owner (dropped q (sending t q v)).guests g ≡ renewed (next_of (sending t q v) q) (owner t.guests g) =
      rw z (dropped-owner q (sending t q v) (sent_known t s q v c))
      in
      record {
        reservation = λ r.
            absurd
            (unreserved n o (ap (λ (i : ℕ). reserved (owner t.guests i).settings) (sym z) ∙ ap (λ (h : Guest). reserved h.settings) (sym is) ∙ r));
        limit = λ r. rw is (p.limit (ap (λ (h : Guest). limited h.settings) (sym is) ∙ r));
        share = rw is p.share;
      }

choice_past : (g : ℕ) (t : Table) → Sound t → t.time ≡ ceiling → PastOf g t → PastOf g (choice t).table
unfolding sending
choice_past g t s now p =
    choice_by (λ r. PastOf g r.table) t p
    (λ q v f e. p)
    (λ q v f n e.
    let o : First (open? t) Request.stag q.guest (picked q v) t.waiting = rw e at (first_open t s q.guest) in
    weight_past t s now q v (open_goes t s q v e) n o.1 g (eqb g q.guest) refl p)

-- an event
step_last : (g : ℕ) (u : Table) (e : Event) → Last g u → (if accepted u e then brings g e else []) ≡ [] → Last g (step u e).table
step_last g u e l b = go (accepted u e) refl
  where
    go : (c : Bool) → accepted u e ≡ c → Last g (step u e).table
    go false a = rw (refused_keeps u e a) l
    go true a =
        let m : moment e ≡ ceiling = omega (arith, accepted-fits u e a, accepted-later u e a, l.last_time) in
        let t = enter u e in
        let s = enter-sound u e a in
        let now : t.time ≡ ceiling = enter_time u e ∙ m in
        let p : PastOf g t = enter_past g u e a m l.known (rw a at b) l.past in
        rw (accepted-step u e a)
        (record {
          is_sound = choice-sound t s;
          last_time = choice_time t ∙ now;
          known = omega (arith, l.known, same_count t u (enter-settings u e), same_count (choice t).table t (choice-settings t));
          past = choice_past g t s now p;
        })

-- the first arrival
first_last : (t : Table) (a : Arriving) → NoCredit t a.guest → accepted t (Arrival a ceiling) ≡ true → Last a.guest (step t (Arrival a ceiling)).table
unfolding event_tests
first_last t a free h =
    let e = Arrival a ceiling in
    let u = enter t e in
    let s = enter-sound t e h in
    let k : a.guest < length t.guests = leb-false (length t.guests) a.guest (passed (tests false (not (sound t)) t e) h 4) in
    rw (accepted-step t e h)
    (record {
      is_sound = choice-sound u s;
      last_time = choice_time u ∙ enter_time t e;
      known = omega (arith, k, same_count u t (enter-settings t e), same_count (choice u).table u (choice-settings u));
      past = choice_past a.guest u s (enter_time t e) (first_past t a free h k);
    })

-- two lists that are empty together are so one by one
none_both : {A : Type 0} (x y : List A) → x ++ y ≡ [] → (x ≡ []) × (y ≡ [])
none_both [] y e = (refl, e)
none_both (a ∷ x) y e = absurd (omega (arith, ap length e))

-- any run that accepts nothing of guest g
run_last : (g : ℕ) (es : List Event) (u : Table) → Last g u → came g u es ≡ [] → Last g (after u es)
unfolding came after
run_last g [] u l n = l
run_last g (e ∷ es) u l n =
    let p = none_both (if accepted u e then brings g e else []) (came g (step u e).table es) n in
    run_last g es (step u e).table (step_last g u e l p.0) p.1

-- SHARE TAGS AT THE CEILING

-- the share tag is not below the ceiling
abbrev high : Request → Bool
high q = leb ceiling q.stag

-- an arrival at the ceiling of a guest without credit brings a share tag there, and at an idle guest it moves all others there
stamped-high : (t : Table) (a : Arriving) (b : Bool) → NoCredit t a.guest → all high (stamped_for b ceiling a t ∷ []) ≡ true
unfolding stamped raised
stamped-high t a b free =
    let h = raised a (arrives_at t a) in
    join (le-leb ceiling (share_tag b ceiling h) (omega (arith, back_0 ceiling h.settings free, not_before ceiling h b))) refl

arrive-high : (t : Table) (a : Arriving) (b : Bool) → NoCredit t a.guest → (b ≡ false → all high t.waiting ≡ true) → all high (arrive_as b ceiling a t).waiting ≡ true
unfolding arrive_as placed adjusted shifted
arrive-high t a false free h = all_append high t.waiting (stamped_for false ceiling a t ∷ []) (h refl) (stamped-high t a false free)
arrive-high t a true free h =
    let f = shifted ceiling (smallest t) in
    all_append high (map f t.waiting) (stamped_for true ceiling a t ∷ [])
    (all_map (λ q. leb (smallest t) q.stag) high f
    (λ q e. le-leb ceiling (q.stag + ceiling - smallest t) (omega (arith, leb-true (smallest t) q.stag e))) t.waiting (smallest-all t))
    (stamped-high t a true free)

-- any event at the ceiling leaves them there
enter-high : (t : Table) (e : Event) → NoneCredited t → moment e ≡ ceiling → all high t.waiting ≡ true → all high (enter t e).waiting ≡ true
unfolding enter arrive complete wait
enter-high t (Arrival a now) free c h = rw c (arrive-high t a (idle t a.guest) (none-credited t free a.guest) (λ z. h))
enter-high t (Completion f now) free c h = h
enter-high t (Tick now) free c h = h

-- what stays of them when one goes
stays_high : (t : Table) (p : Request) (v : List Request) → Goes t p v → all high t.waiting ≡ true → all high v ≡ true
stays_high t p v c h = let k = c.split in rw k.stay (all_mid high k.before p k.after (rw k.stood at h)).1

dropped-high : (p : Request) (t : Table) → all high (dropped p t).waiting ≡ all high t.waiting
unfolding dropped earlier
dropped-high p t =
    all_same high (λ q. if of p.guest q then earlier (drop_of t p) q else q)
    (λ q. elim (of p.guest q) as (λ b. high (if b then earlier (drop_of t p) q else q) ≡ high q) [ true ↦ refl | false ↦ refl ]) t.waiting

choice-high : (t : Table) → Sound t → all high t.waiting ≡ true → all high (choice t).table.waiting ≡ true
unfolding sending
choice-high t s h =
    choice_by (λ r. all high r.table.waiting ≡ true) t h
    (λ p v f e. stays_high t p v (due-goes t s p v e) h)
    (λ p v f n e. dropped-high p (sending t p v) ∙ stays_high t p v (open_goes t s p v e) h)

step-high : (g : ℕ) (u : Table) (e : Event) → Last g u → NoneCredited u → all high u.waiting ≡ true → all high (step u e).table.waiting ≡ true
step-high g u e l free h = go (accepted u e) refl
  where
    go : (c : Bool) → accepted u e ≡ c → all high (step u e).table.waiting ≡ true
    go false a = rw (refused_keeps u e a) h
    go true a =
        let m : moment e ≡ ceiling = omega (arith, accepted-fits u e a, accepted-later u e a, l.last_time) in
        rw (accepted-step u e a) (choice-high (enter u e) (enter-sound u e a) (enter-high u e free m h))

run-high : (g : ℕ) (es : List Event) (u : Table) → Last g u → NoneCredited u → came g u es ≡ [] → all high u.waiting ≡ true
    → all high (after u es).waiting ≡ true
unfolding came after
run-high g [] u l free n h = h
run-high g (e ∷ es) u l free n h =
    let p = none_both (if accepted u e then brings g e else []) (came g (step u e).table es) n in
    run-high g es (step u e).table (step_last g u e l p.0) (step-free u e free) p.1 (step-high g u e l free h)

-- after the first arrival, where it came to an idle guest
first-high : (t : Table) (a : Arriving) → NoCredit t a.guest → accepted t (Arrival a ceiling) ≡ true → idle t a.guest ≡ true
    → all high (step t (Arrival a ceiling)).table.waiting ≡ true
unfolding enter arrive
first-high t a free h d =
    rw (accepted-step t (Arrival a ceiling) h)
    (choice-high (enter t (Arrival a ceiling)) (enter-sound t (Arrival a ceiling) h) (arrive-high t a (idle t a.guest) free (λ z. absurd (true≢false (sym d ∙ z)))))

-- THE SECOND ARRIVAL

-- a list with an entry is not empty
some-there : {A : Type 0} {x : A} {l : List A} → Memᴰ x l → 0 < length l
some-there (Memᴰ.head e) = omega arith
some-there (Memᴰ.tail m) = omega arith

module _ (u : Table) (a : Arriving) (i : ℕ) (n : Arriving) (l : Last a.guest u) where
  abbrev guest : Guest
  guest = owner u.guests a.guest

  abbrev again : Event
  again = Arrival (another a i n) ceiling

  -- where it may come, of the refusals only 9 is left
  only_nine : MayCome u (another a i n) → Prints u again 9 ↔ Passing (idle u a.guest) ceiling (another a i n) u
  unfolding event_cases
  only_nine m = (to, back)
    where
      r : Prints u again 9 ↔ FirstOf 9 (call_cases false (not (sound u)) u again)
      r = (refused_exactly u again).number 9

      fine : not (sound u) ≡ true → ⊥
      fine e = true≢false (sym (is_sound u l.is_sound) ∙ not-true (sound u) e)

      to : Prints u again 9 → Passing (idle u a.guest) ceiling (another a i n) u
      to p =
          ⊎_elim (λ q. absurd (omega (arith, q.0))) (λ q.
          ⊎_elim (λ q. absurd (omega (arith, q.0))) (λ q.
          ⊎_elim (λ q. absurd (omega (arith, q.0))) (λ q.
          ⊎_elim (λ q. absurd (omega (arith, q.0))) (λ q.
          ⊎_elim (λ q. absurd (omega (arith, q.0))) (λ q.
          ⊎_elim (λ q. absurd (omega (arith, q.0))) (λ q.
          ⊎_elim (λ q. absurd (omega (arith, q.0))) (λ q.
          ⊎_elim (λ q. absurd (omega (arith, q.0))) (λ q.
          ⊎_elim (λ q. absurd (omega (arith, q.0))) (λ q.
          ⊎_elim (λ q. q.1) (λ q. absurd q.1) q.1) q.1) q.1) q.1) q.1) q.1) q.1) q.1) q.1) (r.0 p)

      back : Passing (idle u a.guest) ceiling (another a i n) u → Prints u again 9
      back p =
          r.1
          (inr (
            false≢true,
            inr (
              fine,
              inr (
                λ z. omega (arith, l.known),
                inr (
                  λ z. omega arith,
                  inr (
                    λ z. omega (arith, l.last_time),
                    inr (λ z. z m.fair_cost, inr (λ z. z m.fair_delta, inr (m.new_id, inr (λ z. omega (arith, m.room-to-wait), inl (refl, p))))),
                  ),
                ),
              ),
            ),
          ))

  -- a tag passes the ceiling where the guest has something waiting, or a reservation, or a limit
  passes_if : MayCome u (another a i n) → Busy u a.guest ⊎ Held u a.guest → Passing (idle u a.guest) ceiling (another a i n) u
  unfolding stamped share_tag raised
  passes_if m (inl b) =
      given (inr (inr (rw (is_busy u a.guest b) (omega (arith, l.past.share, raised_above n.delta (splain guest.settings) guest.snext m.fair_delta.0)))))
  passes_if m (inr (inl r)) =
      let has = lt-ltb 0 guest.settings.reservation r in
      given (inl (rw has (omega (arith, l.past.reservation has, raised_above n.rho (rplain guest.settings) guest.rnext m.some_rho))))
  passes_if m (inr (inr r)) =
      let has = lt-ltb 0 guest.settings.limit r in
      given (inr (inl (rw has (omega (arith, l.past.limit has, raised_above n.delta (lplain guest.settings) guest.lnext m.fair_delta.0)))))

  -- and only there, where the share tags that wait lie at the ceiling or the guest has something waiting
  only_if : Busy u a.guest ⊎ (all high u.waiting ≡ true) → Passing (idle u a.guest) ceiling (another a i n) u → Busy u a.guest ⊎ Held u a.guest
  unfolding stamped share_tag raised
  only_if (inl b) p = inl b
  only_if (inr h) (given (inl r)) = inr (inl (go (reserved guest.settings) refl r))
    where
      go : (b : Bool) → reserved guest.settings ≡ b → ceiling < (if b then max (raised_by n.rho (rplain guest.settings) guest.rnext) ceiling else 0) → 0 < guest.settings.reservation
      go true e r = ltb-true 0 guest.settings.reservation e
      go false e r = absurd (omega arith)
  only_if (inr h) (given (inr (inl r))) = inr (inr (go (limited guest.settings) refl r))
    where
      go : (b : Bool) → limited guest.settings ≡ b → ceiling < (if b then max (raised_by n.delta (lplain guest.settings) guest.lnext) ceiling else 0) → 0 < guest.settings.limit
      go true e r = ltb-true 0 guest.settings.limit e
      go false e r = absurd (omega arith)
  only_if (inr h) (given (inr (inr r))) = inl (go (idle u a.guest) refl r)
    where
      go : (b : Bool) → idle u a.guest ≡ b → ceiling < (if b then min ceiling (busy_tag ceiling (raised n guest)) else busy_tag ceiling (raised n guest)) → Busy u a.guest
      go true e r = absurd (omega arith)
      go false e r = busy_is u a.guest e
  only_if (inr h) (moved d q m r) =
      let least = smallest_is u (some-there m) in
      let low = leb-true ceiling (at u.waiting least.place).stag (all-at high u.waiting blank h least.place least.inside) in
      let fit = lawful_is q (all-each lawful u.waiting l.is_sound.tags_fit q m) in
      absurd (omega (arith, r, low, least.its_tag, fit.share))

-- WHO WAITS

-- where a guest's ids that wait end in i, its request i waits
abbrev Found : (g i : ℕ) → List Request → Type 0
Found g i w = (j : ℕ) × (j < length w) × (name (at w j) ≡ record { guest = g; id = i })

found-later : (g i : ℕ) (q : Request) (w : List Request) → Found g i w → Found g i (q ∷ w)
found-later g i q w (j, h, n) = (suc j, omega arith, n)

ends_in : (g i : ℕ) (w : List Request) (l : List ℕ) → map Request.id (mine g w) ≡ l ++ (i ∷ []) → Found g i w
ends_in g i [] l e = absurd (omega (arith, ap length e, length-append l (i ∷ [])))
ends_in g i (q ∷ w) l e = go (of g q) refl l e (λ m z. found-later g i q w (ends_in g i w m z))
  where
    go : (b : Bool) → of g q ≡ b → (m : List ℕ) → map Request.id (mine g (q ∷ w)) ≡ m ++ (i ∷ [])
        → ((m : List ℕ) → map Request.id (mine g w) ≡ m ++ (i ∷ []) → Found g i (q ∷ w)) → Found g i (q ∷ w)
    go false f m e k = k m (rw f at e)
    go true f [] e k =
        let z : q.id ∷ map Request.id (mine g w) ≡ i ∷ [] = rw f at e in
        let same : q.id ≡ i = ap (λ (l : List ℕ). get_or l 0 0) z in
        let own = eqb-true q.guest g f in
        (0, omega arith, λ k. record { guest = own k; id = same k })
    go true f (x ∷ m) e k =
        let z : q.id ∷ map Request.id (mine g w) ≡ x ∷ (m ++ (i ∷ [])) = rw f at e in
        k m (ap (drop 1) z)

-- what is left of a list that ends in i is nothing, or ends in i
ending : (i : ℕ) (x y z : List ℕ) → x ++ (i ∷ []) ≡ y ++ z → (z ≡ []) ⊎ ((l : List ℕ) × (z ≡ l ++ (i ∷ [])))
ending i x [] z e = inr (x, sym e)
ending i [] (b ∷ y) z e = inl (none_both y z (sym (ap (drop 1) e))).1
ending i (c ∷ x) (b ∷ y) z e = ending i x y z (ap (drop 1) e)

-- the ids of a guest that has something waiting
ids_some : (u : Table) (g : ℕ) → Busy u g → 0 < length (waits g u)
unfolding idle
ids_some u g b = go (mine g u.waiting) (is_busy u g b)
  where
    go : (l : List Request) → empty l ≡ false → 0 < length (map Request.id l)
    go [] e = absurd (true≢false e)
    go (q ∷ l) e = omega arith

some_ids : (u : Table) (g : ℕ) → 0 < length (waits g u) → Busy u g
unfolding idle
some_ids u g h = busy_is u g (go (mine g u.waiting) h)
  where
    go : (l : List Request) → 0 < length (map Request.id l) → empty l ≡ false
    go [] k = absurd (omega arith)
    go (q ∷ l) k = refl

-- an answer sends at most one
sends-one : (g : ℕ) (x : Answer) → length (sends g x) ≤ 1
sends-one g Nothing = omega arith
sends-one g (Sent p h j) = elim (eqb h g) as (λ b. length (if b then j ∷ [] else []) ≤ 1) [ true ↦ omega arith | false ↦ omega arith ]
sends-one g (Refused r) = omega arith

-- THE STATEMENTS

module _ (t : Table) (a : Arriving) (first : accepted t (Arrival a ceiling) ≡ true) where
  -- the table after the first arrival
  abbrev pub begun : Table
  begun = (step t (Arrival a ceiling)).table

  -- what the first arrival brings
  brought : (if accepted t (Arrival a ceiling) then brings a.guest (Arrival a ceiling) else []) ≡ a.id ∷ []
  brought = rw (first, eq-eqb a.guest a.guest refl)

  module _ (es : List Event) (alone : came a.guest begun es ≡ []) where
    -- after the run something of the guest waits exactly where its first request does
    ids_left : (waits a.guest (after begun es) ≡ []) ⊎ ((l : List ℕ) × (waits a.guest (after begun es) ≡ l ++ (a.id ∷ [])))
    unfolding came after
    ids_left =
        let o = in_order_lem a.guest (Arrival a ceiling ∷ es) t in
        let is : came a.guest t (Arrival a ceiling ∷ es) ≡ a.id ∷ [] = rw (alone) (append-nil _ ∙ brought) in
        ending a.id (waits a.guest t) (left a.guest (answers t (Arrival a ceiling ∷ es))) (waits a.guest (after begun es))
        (ap (waits a.guest t ++◌) (sym is) ∙ o)

    still : Busy (after begun es) a.guest → StillWaits (after begun es) (called_by a)
    still b =
        let u = after begun es in
        ⊎_elim (λ e. absurd (omega (arith, ids_some u a.guest b, ap length e)))
        (λ (l, e). let (j, h, n) = ends_in a.guest a.id u.waiting l e in record { place = j; inside = h; its_name = n }) ids_left

    not_idle : StillWaits (after begun es) (called_by a) → Busy (after begun es) a.guest
    not_idle w = record { place = w.place; inside = w.inside; its_own = ap Flight.guest w.its_name }

    exactly : NoCredit t a.guest → Busy (after begun es) a.guest ⊎ (all high (after begun es).waiting ≡ true) → (i : ℕ) (n : Arriving) → MayCome (after begun es) (another a i n)
        → Prints (after begun es) (Arrival (another a i n) ceiling) 9 ↔ (StillWaits (after begun es) (called_by a) ⊎ Held (after begun es) a.guest)
    exactly free c i n m =
        let u = after begun es in
        let l = run_last a.guest es begun (first_last t a free first) alone in
        let r = only_nine u a i n l m in
        (λ p. ⊎_elim (λ b. inl (still b)) inr (only_if u a i n l c (r.0 p)), λ p. r.1 (passes_if u a i n l m (⊎_elim (λ w. inl (not_idle w)) inr p)))

    -- A guest is idle in a sound table where no guest has credit, and its first request is accepted at the ceiling; then comes any run of events that accepts
    -- none of this guest. A second arrival of it there, "with a new id and room to wait", is refused 9 exactly where the first request still waits or the
    -- guest has a reservation or a limit. In a fresh table every guest is idle.
    pub second-later : NoneCredited t → Idle t a.guest → (i : ℕ) (n : Arriving) → MayCome (after begun es) (another a i n)
        → Prints (after begun es) (Arrival (another a i n) ceiling) 9 ↔ (StillWaits (after begun es) (called_by a) ⊎ Held (after begun es) a.guest)
    second-later free d =
        let own = none-credited t free a.guest in
        exactly own
        (inr
        (run-high a.guest es begun (first_last t a own first) (step-free t (Arrival a ceiling) free) alone (first-high t a own first (is_idle t a.guest d))))

  -- The same at once after the first arrival, from any sound table, the guest idle or not, where it has no credit itself.
  pub second-at_once : NoCredit t a.guest → (i : ℕ) (n : Arriving) → MayCome begun (another a i n)
      → Prints begun (Arrival (another a i n) ceiling) 9 ↔ (StillWaits begun (called_by a) ⊎ Held begun a.guest)
  unfolding came after
  second-at_once free = go (idle t a.guest) refl
    where
      busy : idle t a.guest ≡ false → Busy begun a.guest
      busy e =
          let g = a.guest in
          let s = sends g (step t (Arrival a ceiling)).answer in
          let o = ap length (ap (waits g t ++◌) (sym brought) ∙ step_waits g t (Arrival a ceiling)) in
          some_ids begun g
          (omega (
            arith,
            ids_some t g (busy_is t g e),
            sends-one g (step t (Arrival a ceiling)).answer,
            length-append (waits g t) (a.id ∷ []),
            length-append s (waits g begun),
          ))

      go : (b : Bool) → idle t a.guest ≡ b → (i : ℕ) (n : Arriving) → MayCome begun (another a i n)
          → Prints begun (Arrival (another a i n) ceiling) 9 ↔ (StillWaits begun (called_by a) ⊎ Held begun a.guest)
      go true e = exactly [] refl free (inr (first-high t a free first e))
      go false e = exactly [] refl free (inl (busy e))
