-- A sound table as facts that other proofs read: the rules of document 01, each under a name. Assumes nothing.
use mathlib.Core.Path.{◌≡◌, refl, sym, ◌∙◌}
use mathlib.Core.Bool.{Bool, true, false, ◌&&◌}
use mathlib.Core.List.{List, [], ◌∷◌, map}
use Prim.Native.Nat.{ℕ, ◌≤◌, ◌<◌}
use native.Mathlib.Omega.{arith}
use lib.Dec.{ltb, leb}
use lib.ListN.{length, get_or-eq_default}
use borrow.Author.Tests.{leb-true, le-leb, ltb-true, ltb-false, ne_eqb}
use Rattle.lists.specs.Words.{all}
use Rattle.lists.specs.WordsLaws.{both, join, below_at, at-below, all_parts, all_of_map}
use Rattle.rules.specs.Numbers.{ceiling}
use Rattle.rules.specs.Tables.{Guest, Request, Table, reserved, limited, rspacing, lspacing, sspacing, nobodys, owner, mine, name, names}
use Rattle.rules.specs.Sound.{ranges, ruled, roomy, timely, known, distinct, lawful, priced, kept, no_gap, orderly, ordered, sound}

-- "A table is sound when"
pub record Sound (t : Table) : Type 0 where
  pub in_range : ranges t ≡ true
  pub rule_known : ruled t.setup.rule ≡ true
  pub waiting-fits : length t.waiting ≤ t.setup.capacity
  pub flight_fits : length t.flight ≤ t.setup.depth
  pub time_fits : t.time ≤ ceiling
  pub guests_known : all (λ f. ltb f.guest (length t.guests)) (names t) ≡ true
  pub names_once : distinct (names t) ≡ true
  pub tags_fit : all lawful t.waiting ≡ true
  pub costs_fit : all priced t.waiting ≡ true
  pub guests_orderly : (g : ℕ) → g < length t.guests → orderly (owner t.guests g) (mine g t.waiting) ≡ true

-- what the test says
pub sound_is : (t : Table) → sound t ≡ true → Sound t
unfolding sound
sound_is t h =
    let h8 = both (ranges t && ruled t.setup.rule && roomy t && timely t && known t && distinct (names t) && all lawful t.waiting && all priced t.waiting) (ordered t) h in
    let h7 = both (ranges t && ruled t.setup.rule && roomy t && timely t && known t && distinct (names t) && all lawful t.waiting) (all priced t.waiting) h8.0 in
    let h6 = both (ranges t && ruled t.setup.rule && roomy t && timely t && known t && distinct (names t)) (all lawful t.waiting) h7.0 in
    let h5 = both (ranges t && ruled t.setup.rule && roomy t && timely t && known t) (distinct (names t)) h6.0 in
    let h4 = both (ranges t && ruled t.setup.rule && roomy t && timely t) (known t) h5.0 in
    let h3 = both (ranges t && ruled t.setup.rule && roomy t) (timely t) h4.0 in
    let h2 = both (ranges t && ruled t.setup.rule) (roomy t) h3.0 in
    let h1 = both (ranges t) (ruled t.setup.rule) h2.0 in
    let room = both (leb (length t.waiting) t.setup.capacity) (leb (length t.flight) t.setup.depth) h2.1 in
    record {
      in_range = h1.0;
      rule_known = h1.1;
      waiting-fits = leb-true (length t.waiting) t.setup.capacity room.0;
      flight_fits = leb-true (length t.flight) t.setup.depth room.1;
      time_fits = leb-true t.time ceiling h3.1;
      guests_known = h4.1;
      names_once = h5.1;
      tags_fit = h6.1;
      costs_fit = h7.1;
      guests_orderly = below_at (length t.guests) (λ g. orderly (owner t.guests g) (mine g t.waiting)) h8.1;
    }

-- and the way back
pub is_sound : (t : Table) → Sound t → sound t ≡ true
unfolding sound
is_sound t s =
    let room = join (le-leb (length t.waiting) t.setup.capacity s.waiting-fits) (le-leb (length t.flight) t.setup.depth s.flight_fits) in
    join (join (join (join (join (join (join (join s.in_range s.rule_known) room) (le-leb t.time ceiling s.time_fits)) s.guests_known) s.names_once) s.tags_fit) s.costs_fit)
    (at-below (length t.guests) (λ g. orderly (owner t.guests g) (mine g t.waiting)) s.guests_orderly)

-- the three kinds of tags of a guest of which w waits
pub record Orderly (h : Guest) (w : List Request) : Type 0 where
  pub reservations : kept (reserved h.settings) Request.rtag no_gap (rspacing h.settings) w h.rnext ≡ true
  pub limits : kept (limited h.settings) Request.ltag (lspacing h.settings) (lspacing h.settings) w h.lnext ≡ true
  pub shares : kept true Request.stag (sspacing h.settings) (sspacing h.settings) w h.snext ≡ true

-- what the test of a guest says
pub orderly_is : (h : Guest) (l : List Request) → orderly h l ≡ true → Orderly h l
unfolding orderly
orderly_is h l e = let a = both _ _ e in let b = both _ _ a.0 in record { reservations = b.0; limits = b.1; shares = a.1 }

-- and the way back
pub is_orderly : (h : Guest) (l : List Request) → Orderly h l → orderly h l ≡ true
unfolding orderly
is_orderly h l o = join (join o.reservations o.limits) o.shares

-- the tags of a lawful request
pub record Lawful (q : Request) : Type 0 where
  pub reservation : q.rtag ≤ ceiling
  pub limit : q.ltag ≤ ceiling
  pub share : q.stag ≤ ceiling

-- what the test of a request says
pub lawful_is : (q : Request) → lawful q ≡ true → Lawful q
unfolding lawful
lawful_is q e =
    let a = both (leb q.rtag ceiling && leb q.ltag ceiling) (leb q.stag ceiling) e in
    let b = both (leb q.rtag ceiling) (leb q.ltag ceiling) a.0 in
    record {
      reservation = leb-true q.rtag ceiling b.0;
      limit = leb-true q.ltag ceiling b.1;
      share = leb-true q.stag ceiling a.1;
    }

-- and the way back
pub is_lawful : (q : Request) → Lawful q → lawful q ≡ true
unfolding lawful
is_lawful q l =
    join (join (le-leb q.rtag ceiling l.reservation) (le-leb q.ltag ceiling l.limit)) (le-leb q.stag ceiling l.share)

-- nothing waits of a guest that does not exist
pub mine-none : (n g : ℕ) (w : List Request) → n ≤ g → all (λ q. ltb q.guest n) w ≡ true → mine g w ≡ []
mine-none n g [] h a = refl
mine-none n g (q ∷ w) h a =
    let c = both (ltb q.guest n) (all (λ q. ltb q.guest n) w) a in
    let l = ltb-true q.guest n c.0 in
    rw (ne_eqb q.guest g (λ e. omega arith)) (mine-none n g w h c.1)

-- where there is no guest, nothing is out of order
orderly_nobody : orderly nobodys [] ≡ true
unfolding orderly kept
orderly_nobody = refl

module _ (t : Table) (s : Sound t) where
  -- each waiting request's guest exists
  pub waiting-known : all (λ q. ltb q.guest (length t.guests)) t.waiting ≡ true
  waiting-known =
      sym (all_of_map (λ f. ltb f.guest (length t.guests)) name t.waiting)
      ∙ (all_parts (λ f. ltb f.guest (length t.guests)) (map name t.waiting) t.flight s.guests_known).0

  -- the numbers of any guest number are in order, one that no guest has too
  pub any_orderly : (g : ℕ) → orderly (owner t.guests g) (mine g t.waiting) ≡ true
  any_orderly g = go (ltb g (length t.guests)) refl
    where
      go : (b : Bool) → ltb g (length t.guests) ≡ b → orderly (owner t.guests g) (mine g t.waiting) ≡ true
      go true e = s.guests_orderly g (ltb-true g (length t.guests) e)
      go false e =
          let l : length t.guests ≤ g = ltb-false g (length t.guests) e in
          rw (get_or-eq_default t.guests nobodys l, mine-none (length t.guests) g t.waiting l waiting-known) orderly_nobody
