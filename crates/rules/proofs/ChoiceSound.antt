-- The choice keeps a table sound. Assumes nothing.
use mathlib.Core.Path.{◌≡◌, refl, ◌∙◌}
use mathlib.Core.Bool.{Bool, true, false}
use mathlib.Core.List.{List, [], ◌∷◌, ◌++◌, map}
use Prim.Native.Nat.{ℕ, suc, ◌+◌, ◌-◌, ◌<◌}
use native.Mathlib.Omega.{arith}
use lib.Dec.{ltb, leb, eqb}
use lib.ListN.{length, length-append}
use borrow.Author.Tests.{ltb-true, leb-true, le-leb, eqb-true, eq-eqb}
use Rattle.lists.specs.Words.{if◌then◌else◌, all}
use Rattle.lists.specs.WordsLaws.{both, join, all_append, all_map, all_mid}
use Rattle.rules.specs.Numbers.{idle_bound}
use Rattle.rules.specs.Tables.{Settings, Guest, Request, Flight, Table, reserved, limited, rplain, lplain, splain, rspacing, lspacing, sspacing, owner, of, mine, name, names}
use Rattle.rules.specs.Sound.{lawful, fair, priced, apart, follows, kept, no_gap, orderly}
use Rattle.rules.specs.Choice.{sending, earlier, resumed, renewed, drop_of, dropped, room, choice}
use Rattle.rules.proofs.Spacings.{down_le, up_le, no_down, fair_is, cost_le, cost_none}
use Rattle.rules.proofs.Names.{distinct_last, names_mid, names_sent}
use Rattle.rules.proofs.Chains.{kept_tail, kept_same}
use Rattle.rules.proofs.SameSettings.{same-ranges, same_rule, same_count, sending-settings, dropped-settings}
use Rattle.rules.proofs.Facts.{Sound, orderly_is, is_orderly, Lawful, lawful_is, waiting-known, any_orderly}
use Rattle.rules.proofs.Picks.{Goes, due-goes, open_goes}
use Rattle.rules.proofs.Drops.{dropped-names, dropped-length, dropped_flight, dropped_time, dropped-lawful, dropped_costs, dropped-own, dropped-owner, dropped-others, dropped_other}
use Rattle.rules.proofs.Cases.{choice_by}

-- A REQUEST GOES

-- what stays of a guest when its first has gone is in order
orderly_tail : (h : Guest) (p : Request) (l : List Request) → Lawful p → priced p ≡ true → orderly h (p ∷ l) ≡ true → orderly h l ≡ true
orderly_tail h p l b c e =
    let s = h.settings in
    let o = orderly_is h (p ∷ l) e in
    let most = (fair_is p.cost c).1 in
    is_orderly h l
    (record {
      reservations = kept_tail Request.rtag no_gap (rspacing s) (reserved s) p l h.rnext (omega (arith, cost_le p.cost (rplain s) most (down_le s.reservation))) o.reservations;
      limits = kept_tail Request.ltag (lspacing s) (lspacing s) (limited s) p l h.lnext (omega (arith, cost_le p.cost (lplain s) most (up_le s.limit))) o.limits;
      shares = kept_tail Request.stag (sspacing s) (sspacing s) true p l h.snext (omega (arith, cost_le p.cost (splain s) most (down_le s.shares))) o.shares;
    })

module _ (t : Table) (s : Sound t) (p : Request) (v : List Request) (c : Goes t p v) where
  -- what goes has lawful tags
  sent_lawful : Lawful p
  sent_lawful = let k = c.split in lawful_is p (all_mid lawful k.before p k.after (rw k.stood at s.tags_fit)).0

  -- and a cost that there is
  sent_priced : priced p ≡ true
  sent_priced = let k = c.split in (all_mid priced k.before p k.after (rw k.stood at s.costs_fit)).0

  -- and its guest exists
  pub sent_known : p.guest < length t.guests
  sent_known =
      let k = c.split in
      let f : Request → Bool = λ q. ltb q.guest (length t.guests) in
      let a : all f (k.before ++ p ∷ k.after) ≡ true = rw k.stood at (waiting-known t s) in
      ltb-true p.guest (length t.guests) (all_mid f k.before p k.after a).0

  -- what stays of each guest is in order
  sending_order : (g : ℕ) → orderly (owner t.guests g) (mine g v) ≡ true
  sending_order g =
      (elim (of g p) as (λ b. orderly (owner t.guests g) (if b then p ∷ mine g v else mine g v) ≡ true → orderly (owner t.guests g) (mine g v) ≡ true)
      [ true ↦ orderly_tail (owner t.guests g) p (mine g v) sent_lawful sent_priced | false ↦ λ e. e ])
      (rw (c.first g) at (any_orderly t s g))

  -- a request that may go leaves the table sound
  pub sending-sound : room t ≡ true → Sound (sending t p v)
  unfolding sending room
  sending-sound r =
      let k = c.split in
      let f : Flight → Bool = λ f. ltb f.guest (length t.guests) in
      let rest : List Flight = map name k.before ++ (map name k.after ++ t.flight) in
      let was : names t ≡ map name k.before ++ name p ∷ (map name k.after ++ t.flight) = rw k.stood (names_mid k.before k.after p t.flight) in
      let is : map name v ++ (t.flight ++ (name p ∷ [])) ≡ rest ++ (name p ∷ []) = rw k.stay (names_sent k.before k.after p t.flight) in
      let n : length t.waiting ≡ suc (length v) = rw (k.stood, k.stay, length-append k.before (p ∷ k.after), length-append k.before k.after) (omega arith) in
      let kn = all_mid f (map name k.before) (name p) (map name k.after ++ t.flight) (rw was at s.guests_known) in
      record {
        in_range = same-ranges (sending t p v) t (sending-settings t p v) ∙ s.in_range;
        rule_known = same_rule (sending t p v) t (sending-settings t p v) ∙ s.rule_known;
        waiting-fits = omega (arith, s.waiting-fits);
        flight_fits = rw (length-append t.flight (name p ∷ [])) (omega (arith, ltb-true (length t.flight) t.setup.depth r));
        time_fits = s.time_fits;
        guests_known = rw is (all_append f rest (name p ∷ []) kn.1 (join kn.0 refl));
        names_once = rw is (distinct_last (map name k.before) (name p) (map name k.after ++ t.flight) (rw was at s.names_once));
        tags_fit = rw k.stay (all_mid lawful k.before p k.after (rw k.stood at s.tags_fit)).1;
        costs_fit = rw k.stay (all_mid priced k.before p k.after (rw k.stood at s.costs_fit)).1;
        guests_orderly = λ g known. sending_order g;
      }

-- ITS GUEST'S TAGS DROP

-- reservation tags that do not fall, dropped, do not fall
falls_drop : (d : ℕ) (l : List Request) → apart Request.rtag no_gap l ≡ true → apart Request.rtag no_gap (map (earlier d) l) ≡ true
unfolding earlier
falls_drop d [] a = refl
falls_drop d (q ∷ []) a = refl
falls_drop d (q ∷ p ∷ l) a =
    let c = both (leb (q.rtag + 0) p.rtag) (apart Request.rtag no_gap (p ∷ l)) a in
    let k = leb-true (q.rtag + 0) p.rtag c.0 in
    join (le-leb (q.rtag - d + 0) (p.rtag - d) (omega arith)) (falls_drop d (p ∷ l) c.1)

module _ (s : Settings) (d : ℕ) where
  -- the next number that is set follows the dropped tags
  resumed-follows : (l : List Request) (n : ℕ) → follows Request.rtag (rspacing s) l n ≡ true → follows Request.rtag (rspacing s) (map (earlier d) l) (resumed s d l n) ≡ true
  unfolding earlier
  resumed-follows [] n f = le-leb (n - d) idle_bound (omega (arith, leb-true n idle_bound f))
  resumed-follows (q ∷ []) n f = eq-eqb (q.rtag - d + rspacing s q) (q.rtag - d + rspacing s q) refl
  resumed-follows (q ∷ p ∷ l) n f = resumed-follows (p ∷ l) n f

  -- of a guest without a reservation it is 0
  pub resumed-none : rplain s ≡ 0 → (l : List Request) (n : ℕ) → n ≡ 0 → all (λ q. eqb q.rtag 0) l ≡ true → resumed s d l n ≡ 0
  resumed-none z [] n e a = omega arith
  resumed-none z (q ∷ []) n e a = omega (arith, cost_none q.cost (rplain s) z, eqb-true q.rtag 0 (both (eqb q.rtag 0) true a).0)
  resumed-none z (q ∷ p ∷ l) n e a = resumed-none z (p ∷ l) n e (both (eqb q.rtag 0) (all (λ q. eqb q.rtag 0) (p ∷ l)) a).1

  -- so the reservation tags and the next number are in order after a drop
  kept-drop : (has : Bool) → reserved s ≡ has → (l : List Request) (n : ℕ) → kept has Request.rtag no_gap (rspacing s) l n ≡ true
      → kept has Request.rtag no_gap (rspacing s) (map (earlier d) l) (resumed s d l n) ≡ true
  unfolding kept earlier
  kept-drop true e l n h =
      let c = both (apart Request.rtag no_gap l) (follows Request.rtag (rspacing s) l n) h in
      join (falls_drop d l c.0) (resumed-follows l n c.1)
  kept-drop false e l n h =
      let c = both (eqb n 0) (all (λ q. eqb q.rtag 0) l) h in
      join (eq-eqb (resumed s d l n) 0 (resumed-none (no_down s.reservation e) l n (eqb-true n 0 c.0) c.1))
      (all_map (λ q. eqb q.rtag 0) (λ q. eqb q.rtag 0) (earlier d) (λ q z. eq-eqb (q.rtag - d) 0 (omega (arith, eqb-true q.rtag 0 z))) l c.1)

-- a guest's numbers after a drop are in order
drop_own : (h : Guest) (d : ℕ) (l : List Request) → orderly h l ≡ true → orderly (renewed (resumed h.settings d l h.rnext) h) (map (earlier d) l) ≡ true
unfolding renewed earlier
drop_own h d l e =
    let s = h.settings in
    let f = earlier d in
    let o = orderly_is h l e in
    is_orderly (renewed (resumed s d l h.rnext) h) (map f l)
    (record {
      reservations = kept-drop s d (reserved s) refl l h.rnext o.reservations;
      limits = kept_same Request.ltag (lspacing s) (lspacing s) f (λ q. refl) (λ q. refl) (λ q. refl) (limited s) l h.lnext ∙ o.limits;
      shares = kept_same Request.stag (sspacing s) (sspacing s) f (λ q. refl) (λ q. refl) (λ q. refl) true l h.snext ∙ o.shares;
    })

module _ (t : Table) (s : Sound t) (p : Request) (v : List Request) (c : Goes t p v) where
  -- p is the first that waits of its guest
  pub sent_first : mine p.guest t.waiting ≡ p ∷ mine p.guest v
  sent_first = c.first p.guest ∙ rw (eq-eqb p.guest p.guest refl)

module _ (u : Table) (s : Sound u) (p : Request) (known : p.guest < length u.guests) where
  -- the numbers of each guest are in order after the drop
  dropped_order : (g : ℕ) → orderly (owner (dropped p u).guests g) (mine g (dropped p u).waiting) ≡ true
  dropped_order g = go (eqb g p.guest) refl
    where
      go : (b : Bool) → eqb g p.guest ≡ b → orderly (owner (dropped p u).guests g) (mine g (dropped p u).waiting) ≡ true
      go true e =
          rw (eqb-true g p.guest e, dropped-owner p u known, dropped-own p u)
          (drop_own (owner u.guests p.guest) (drop_of u p) (mine p.guest u.waiting) (any_orderly u s p.guest))
      go false e = rw (dropped_other p u g e, dropped-others p u g e) (any_orderly u s g)

  -- a drop leaves the table sound
  pub dropped-sound : Sound (dropped p u)
  dropped-sound =
      let k = dropped-settings p u in
      record {
        in_range = same-ranges (dropped p u) u k ∙ s.in_range;
        rule_known = same_rule (dropped p u) u k ∙ s.rule_known;
        waiting-fits = rw (dropped-length p u, k.setup) s.waiting-fits;
        flight_fits = rw (dropped_flight p u, k.setup) s.flight_fits;
        time_fits = rw (dropped_time p u) s.time_fits;
        guests_known = rw (same_count (dropped p u) u k, dropped-names p u) s.guests_known;
        names_once = rw (dropped-names p u) s.names_once;
        tags_fit = dropped-lawful p u s.tags_fit;
        costs_fit = dropped_costs p u fair ∙ s.costs_fit;
        guests_orderly = λ g known. dropped_order g;
      }

-- THE CHOICE

-- The choice keeps a table sound.
pub choice-sound : (t : Table) → Sound t → Sound (choice t).table
choice-sound t s =
    choice_by (λ r. Sound r.table) t s
    (λ p v f e. sending-sound t s p v (due-goes t s p v e) f)
    (λ p v f n e.
    let c = open_goes t s p v e in
    let known : p.guest < length (sending t p v).guests = rw (same_count (sending t p v) t (sending-settings t p v)) (sent_known t s p v c) in
    dropped-sound (sending t p v) (sending-sound t s p v c f) p known)
