-- "A table is sound when", a second time and in plain facts, and that the test says just that. Assumes nothing.
use mathlib.Core.Path.{◌≡◌, refl, sym, ap, ◌∙◌}
use mathlib.Core.Bool.{Bool, true, false, ◌&&◌, true≢false, false≢true}
use mathlib.Core.List.{List, [], ◌∷◌, ◌++◌, map, Memᴰ}
use mathlib.Core.Logic.{◌↔◌}
use Prim.Native.Nat.{ℕ, zero, suc, ◌+◌, ◌*◌, ◌≤◌, ◌<◌}
use native.Mathlib.Omega.{arith}
use lib.Dec.{ltb, leb, eqb}
use lib.ListN.{length}
use borrow.Author.Tests.{ltb-true, lt-ltb, leb-true, le-leb, eqb-true, eq-eqb}
use Rattle.lists.specs.Words.{all}
use Rattle.lists.specs.WordsLaws.{both, join, all_of_map, all-each, each_all, all-at, places_all}
use Rattle.rules.specs.Numbers.{ceiling, second, most_cost, idle_bound}
use Rattle.rules.specs.Tables.{Settings, Guest, Request, Flight, Table, reserved, limited, rspacing, lspacing, sspacing, owner, mine, lacks, names}
use Rattle.rules.specs.Sound.{counted, settled, ranges, distinct, lawful, priced, apart, follows, kept, no_gap, sound}
use Rattle.rules.specs.Refused.{Countable, Ruled, Good, Fair}
use Rattle.rules.specs.Chosen.{blank, at}
use Rattle.rules.proofs.Facts.{Sound, sound_is, is_sound, Orderly, orderly_is, is_orderly, lawful_is, is_lawful}
use Rattle.rules.proofs.Conditions.{counted_means, ruled_means, settled_means, fair_means, lacking}
use Rattle.rules.proofs.Chains.{apart_tail}

-- one kind of tag of what waits of a guest, l, and its next number: the guest has this kind, or lacks it
pub record Kept (has : Bool) (tag gap spacing : Request → ℕ) (l : List Request) (next : ℕ) : Type 0 where
  -- "each later waiting request's tag of each kind it has is at least the earlier one's plus the spacing", or what gap there must be
  pub spaced : has ≡ true → (i j : ℕ) → i < j → j < length l → tag (at l i) + gap (at l i) ≤ tag (at l j)
  -- "for a guest with something waiting, each next number it has is its last waiting tag plus the spacing"
  pub next-follows : has ≡ true → (a : List Request) (q : Request) → l ≡ a ++ (q ∷ []) → next ≡ tag q + spacing q
  -- document 02, K8: "an idle guest's next number is at most the ceiling plus 64,000,000,000"
  pub idle-fits : has ≡ true → l ≡ [] → next ≤ ceiling + most_cost * second
  -- "meaningless numbers .. are zero"
  pub no_next : has ≡ false → next ≡ 0
  pub no_tags : has ≡ false → (j : ℕ) → j < length l → tag (at l j) ≡ 0

-- no name stands a second time behind itself
abbrev pub Once : List Flight → Type 0
Once l = (a b : List Flight) (f : Flight) → l ≡ a ++ f ∷ b → Memᴰ f b → ⊥

-- "A table is sound when"
pub record SoundTable (t : Table) : Type 0 where
  -- "settings lie in the ranges"
  pub counts_in_range : Countable t.setup.depth (length t.guests) t.setup.capacity
  pub rule_known : Ruled t.setup.rule
  pub settings_in_range : (s : Settings) → Memᴰ s (map Guest.settings t.guests) → Good s
  -- "counts do not exceed capacity and depth"
  pub waiting-fits : length t.waiting ≤ t.setup.capacity
  pub flight_fits : length t.flight ≤ t.setup.depth
  -- "the time is at most the ceiling"
  pub time_fits : t.time ≤ ceiling
  -- "every entry's guest exists"
  pub guests_exist : (f : Flight) → Memᴰ f (names t) → f.guest < length t.guests
  -- "no guest has one id twice among waiting and in flight"
  pub ids_once : Once (names t)
  -- "tags are at most the ceiling"
  pub tags_fit : (q : Request) → Memᴰ q t.waiting → (q.rtag ≤ ceiling) × (q.ltag ≤ ceiling) × (q.stag ≤ ceiling)
  -- document 02, K8: "a cost outside 1 to 64 is 18 .. one kept in a table is 3"
  pub costs_fit : (q : Request) → Memᴰ q t.waiting → Fair q.cost
  -- "within a guest", each kind it has, and those it lacks. Document 02, K14: "Soundness then asks only that a guest's reservation tags do not fall"
  pub reservations : (g : ℕ) → g < length t.guests
      → Kept (reserved (owner t.guests g).settings) Request.rtag no_gap (rspacing (owner t.guests g).settings) (mine g t.waiting) (owner t.guests g).rnext
  pub limits : (g : ℕ) → g < length t.guests
      → Kept (limited (owner t.guests g).settings) Request.ltag (lspacing (owner t.guests g).settings) (lspacing (owner t.guests g).settings) (mine g t.waiting) (owner t.guests g).lnext
  pub shares : (g : ℕ) → g < length t.guests
      → Kept true Request.stag (sspacing (owner t.guests g).settings) (sspacing (owner t.guests g).settings) (mine g t.waiting) (owner t.guests g).snext

-- ONE KIND

module _ (tag gap spacing : Request → ℕ) where
  -- the later tags lie a gap past the first
  later : (q : Request) (l : List Request) → apart tag gap (q ∷ l) ≡ true → (j : ℕ) → j < length l → tag q + gap q ≤ tag (at l j)
  later q [] a j h = omega arith
  later q (p ∷ l) a zero h = leb-true (tag q + gap q) (tag p) (both (leb (tag q + gap q) (tag p)) (apart tag gap (p ∷ l)) a).0
  later q (p ∷ l) a (suc j) h =
      let c = both (leb (tag q + gap q) (tag p)) (apart tag gap (p ∷ l)) a in
      omega (arith, leb-true (tag q + gap q) (tag p) c.0, later p l c.1 j (omega arith))

  apart_is : (l : List Request) → apart tag gap l ≡ true → (i j : ℕ) → i < j → j < length l → tag (at l i) + gap (at l i) ≤ tag (at l j)
  apart_is [] a i j h k = omega arith
  apart_is (q ∷ l) a i zero h k = omega arith
  apart_is (q ∷ l) a zero (suc j) h k = later q l a j (omega arith)
  apart_is (q ∷ l) a (suc i) (suc j) h k = apart_is l (apart_tail tag gap spacing q l a) i j (omega arith) (omega arith)

  is_apart : (l : List Request) → ((i j : ℕ) → i < j → j < length l → tag (at l i) + gap (at l i) ≤ tag (at l j)) → apart tag gap l ≡ true
  is_apart [] s = refl
  is_apart (q ∷ []) s = refl
  is_apart (q ∷ p ∷ l) s =
      join (le-leb (tag q + gap q) (tag p) (s 0 1 (omega arith) (omega arith)))
      (is_apart (p ∷ l) (λ i j h k. s (suc i) (suc j) (omega arith) (omega arith)))

  last_is : (n : ℕ) (a : List Request) (q : Request) → follows tag spacing (a ++ (q ∷ [])) n ≡ true → n ≡ tag q + spacing q
  last_is n [] q f = eqb-true n (tag q + spacing q) f
  last_is n (x ∷ []) q f = eqb-true n (tag q + spacing q) f
  last_is n (x ∷ y ∷ a) q f = last_is n (y ∷ a) q f

  is_follows : (n : ℕ) (l : List Request) → (l ≡ [] → n ≤ idle_bound) → ((a : List Request) (q : Request) → l ≡ a ++ (q ∷ []) → n ≡ tag q + spacing q)
      → follows tag spacing l n ≡ true
  is_follows n [] i z = le-leb n idle_bound (i refl)
  is_follows n (q ∷ []) i z = eq-eqb n (tag q + spacing q) (z [] q refl)
  is_follows n (q ∷ p ∷ l) i z =
      is_follows n (p ∷ l) (λ e. let no : ◌≡◌ {A = ℕ} 0 1 = cc in omega arith) (λ a x e. z (q ∷ a) x (ap (q ∷◌) e))

  kept_means : (has : Bool) (l : List Request) (n : ℕ) → (kept has tag gap spacing l n ≡ true) ↔ Kept has tag gap spacing l n
  unfolding kept
  kept_means true l n = (to, λ k. join (is_apart l (k.spaced refl)) (is_follows n l (k.idle-fits refl) (k.next-follows refl)))
    where
      to : apart tag gap l && follows tag spacing l n ≡ true → Kept true tag gap spacing l n
      to h =
          let c = both (apart tag gap l) (follows tag spacing l n) h in
          record {
            spaced = λ e. apart_is l c.0;
            next-follows = λ e a q m. last_is n a q (rw m at c.1);
            idle-fits = λ e m. leb-true n idle_bound (rw m at c.1);
            no_next = λ e. absurd (true≢false e);
            no_tags = λ e. absurd (true≢false e);
          }
  kept_means false l n =
      (to, λ k. join (eq-eqb n 0 (k.no_next refl)) (places_all (λ q. eqb (tag q) 0) l blank (λ j h. eq-eqb (tag (at l j)) 0 (k.no_tags refl j h))))
    where
      to : eqb n 0 && all (λ q. eqb (tag q) 0) l ≡ true → Kept false tag gap spacing l n
      to h =
          let c = both (eqb n 0) (all (λ q. eqb (tag q) 0) l) h in
          record {
            spaced = λ e. absurd (false≢true e);
            next-follows = λ e. absurd (false≢true e);
            idle-fits = λ e. absurd (false≢true e);
            no_next = λ e. eqb-true n 0 c.0;
            no_tags = λ e j k. eqb-true (tag (at l j)) 0 (all-at (λ q. eqb (tag q) 0) l blank c.1 j k);
          }

-- NAMES

behind-lacks : (a b : List Flight) (f : Flight) → distinct (a ++ f ∷ b) ≡ true → lacks f b ≡ true
unfolding distinct
behind-lacks [] b f h = (both (lacks f b) (distinct b) h).0
behind-lacks (x ∷ a) b f h = behind-lacks a b f (both (lacks x (a ++ f ∷ b)) (distinct (a ++ f ∷ b)) h).1

once_means : (l : List Flight) → (distinct l ≡ true) ↔ Once l
unfolding distinct
once_means l = (λ h a b f e. (lacking f b).holds.0 (behind-lacks a b f (rw e at h)), back l)
  where
    back : (l : List Flight) → Once l → distinct l ≡ true
    back [] o = refl
    back (x ∷ l) o = join ((lacking x l).holds.1 (o [] l x refl)) (back l (λ a b f e. o (x ∷ a) b f (ap (x ∷◌) e)))

-- THE TABLE

module _ (t : Table) where
  -- the guest of an entry exists
  abbrev here : Flight → Bool
  here f = ltb f.guest (length t.guests)

  to : Sound t → SoundTable t
  unfolding ranges
  to s =
      let c = both (counted t.setup.depth (length t.guests) t.setup.capacity) (all (λ h. settled h.settings) t.guests) s.in_range in
      let o : (g : ℕ) → g < length t.guests → Orderly (owner t.guests g) (mine g t.waiting) = λ g h. orderly_is (owner t.guests g) (mine g t.waiting) (s.guests_orderly g h) in
      record {
        counts_in_range = (counted_means t.setup.depth (length t.guests) t.setup.capacity).holds.0 c.0;
        rule_known = (ruled_means t.setup.rule).holds.0 s.rule_known;
        settings_in_range = (settled_means (map Guest.settings t.guests)).holds.0 (all_of_map settled Guest.settings t.guests ∙ c.1);
        waiting-fits = s.waiting-fits;
        flight_fits = s.flight_fits;
        time_fits = s.time_fits;
        guests_exist = λ f m. ltb-true f.guest (length t.guests) (all-each here (names t) s.guests_known f m);
        ids_once = (once_means (names t)).0 s.names_once;
        tags_fit = λ q m. let l = lawful_is q (all-each lawful t.waiting s.tags_fit q m) in (l.reservation, l.limit, l.share);
        costs_fit = λ q m. (fair_means q.cost).holds.0 (all-each priced t.waiting s.costs_fit q m);
        reservations = λ g h. (kept_means _ _ _ _ _ _).0 (o g h).reservations;
        limits = λ g h. (kept_means _ _ _ _ _ _).0 (o g h).limits;
        shares = λ g h. (kept_means _ _ _ _ _ _).0 (o g h).shares;
      }

  back : SoundTable t → Sound t
  unfolding ranges
  back s =
      record {
        in_range =
            join ((counted_means t.setup.depth (length t.guests) t.setup.capacity).holds.1 s.counts_in_range)
            (sym (all_of_map settled Guest.settings t.guests) ∙ (settled_means (map Guest.settings t.guests)).holds.1 s.settings_in_range);
        rule_known = (ruled_means t.setup.rule).holds.1 s.rule_known;
        waiting-fits = s.waiting-fits;
        flight_fits = s.flight_fits;
        time_fits = s.time_fits;
        guests_known = each_all here (names t) (λ f m. lt-ltb f.guest (length t.guests) (s.guests_exist f m));
        names_once = (once_means (names t)).1 s.ids_once;
        tags_fit =
            each_all lawful t.waiting
            (λ q m. is_lawful q (record { reservation = (s.tags_fit q m).0; limit = (s.tags_fit q m).1; share = (s.tags_fit q m).2 }));
        costs_fit = each_all priced t.waiting (λ q m. (fair_means q.cost).holds.1 (s.costs_fit q m));
        guests_orderly = λ g h. is_orderly (owner t.guests g) (mine g t.waiting)
            (record {
              reservations = (kept_means _ _ _ _ _ _).1 (s.reservations g h);
              limits = (kept_means _ _ _ _ _ _).1 (s.limits g h);
              shares = (kept_means _ _ _ _ _ _).1 (s.shares g h);
            });
      }

  -- The test of soundness holds exactly where all these facts do.
  pub sound_exactly : (sound t ≡ true) ↔ SoundTable t
  sound_exactly = (λ h. to (sound_is t h), λ s. is_sound t (back s))
