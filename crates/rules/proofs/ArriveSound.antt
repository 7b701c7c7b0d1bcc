-- What an arrival does before the choice keeps a table sound: the shares are settled, and the request is stamped and placed. Assumes nothing.
use mathlib.Core.Path.{◌≡◌, refl, sym, ap, ◌∙◌}
use mathlib.Core.Bool.{Bool, true, false, ◌&&◌, true≢false, false≢true}
use mathlib.Core.List.{List, [], ◌∷◌, ◌++◌, map, append-nil}
use Prim.Native.Nat.{ℕ, ◌+◌, ◌≤◌, ◌<◌}
use native.Mathlib.Omega.{arith}
use native.Mathlib.Nat.{zero-add}
use lib.Dec.{ltb, leb, eqb}
use lib.ListN.{length, set, length-append, length-map}
use lib.Seq.{get_or-set_same, get_or-set_other}
use borrow.Author.Tests.{lt-ltb, eqb-true, eqb-false, eq-eqb, not-false}
use Rattle.lists.specs.Words.{if◌then◌else◌, all, empty}
use Rattle.lists.specs.WordsLaws.{both, join, eqb_sym, all_append, all_parts, all_filter, lowest-all, all_of_map, map_same, filter_map, filter-append, get_or-each}
use Rattle.rules.specs.Numbers.{ceiling}
use Rattle.rules.specs.Tables.{Guest, Request, Flight, Table, reserved, limited, rplain, lplain, splain, rspacing, lspacing, sspacing, nobodys, owner, of, mine, idle, name, lacks, names}
use Rattle.rules.specs.Sound.{ranges, ruled, distinct, lawful, priced, fair, spread, no_gap, orderly}
use Rattle.rules.specs.Events.{Arriving, called_by, smallest, shifted, shifted_next, adjusted, share_tag, stamped, following, placed, raised, stamped_for, arrive_as, arrive}
use Rattle.rules.specs.Refusals.{passing}
use Rattle.rules.proofs.Spacings.{no_down, no_up, cost_none, cost_once}
use Rattle.rules.proofs.Raises.{spread-some, raised_above}
use Rattle.rules.proofs.Names.{distinct_mid, names_mid}
use Rattle.rules.proofs.Chains.{kept_same, kept_shift, kept_snoc}
use Rattle.rules.proofs.SameSettings.{same-ranges, same_rule, same_count, placed-settings, adjusted-settings}
use Rattle.rules.proofs.Facts.{Sound, orderly_is, is_orderly}

-- what an arrival finds and leaves, but for the tags, which it tests, and the number of those that wait
record Firm (t : Table) : Type 0 where
  in_range : ranges t ≡ true
  rule_known : ruled t.setup.rule ≡ true
  flight_fits : length t.flight ≤ t.setup.depth
  costs_fit : all priced t.waiting ≡ true
  guests_known : all (λ f. ltb f.guest (length t.guests)) (names t) ≡ true
  names_once : distinct (names t) ≡ true
  guests_orderly : (g : ℕ) → g < length t.guests → orderly (owner t.guests g) (mine g t.waiting) ≡ true

-- the shares of a guest with something waiting, moved
shift_own : (now m : ℕ) (h : Guest) (l : List Request) → all (λ q. leb m q.stag) l ≡ true → empty l ≡ false → orderly h l ≡ true
    → orderly (shifted_next now m h) (map (shifted now m) l) ≡ true
unfolding shifted shifted_next
shift_own now m h [] a e o = absurd (true≢false e)
shift_own now m h (q ∷ l) a e o =
    let s = h.settings in
    let f = shifted now m in
    let k = orderly_is h (q ∷ l) o in
    is_orderly (shifted_next now m h) (map f (q ∷ l))
    (record {
      reservations = kept_same Request.rtag no_gap (rspacing s) f (λ q. refl) (λ q. refl) (λ q. refl) (reserved s) (q ∷ l) h.rnext ∙ k.reservations;
      limits = kept_same Request.ltag (lspacing s) (lspacing s) f (λ q. refl) (λ q. refl) (λ q. refl) (limited s) (q ∷ l) h.lnext ∙ k.limits;
      shares = kept_shift Request.stag (sspacing s) (sspacing s) f (λ q. refl) (λ q. refl) now m (λ q. refl) q l h.snext a k.shares;
    })

-- nothing changes where nothing waits
map-empty : (f : Request → Request) (l : List Request) → empty l ≡ true → map f l ≡ l
map-empty f [] e = refl
map-empty f (q ∷ l) e = absurd (false≢true e)

-- and something waits where something did
empty-map : (f : Request → Request) (l : List Request) → empty (map f l) ≡ empty l
empty-map f [] = refl
empty-map f (q ∷ l) = refl

-- no share tag that waits is below the smallest
pub smallest-all : (t : Table) → all (λ q. leb (smallest t) q.stag) t.waiting ≡ true
smallest-all t = sym (all_of_map (leb (smallest t)) Request.stag t.waiting) ∙ lowest-all (map Request.stag t.waiting) (smallest t) (omega arith)

module _ (t : Table) (now : ℕ) where
  -- what becomes of guest i
  abbrev moved : ℕ → Guest → Guest
  moved i h = if idle t i then h else shifted_next now (smallest t) h

  -- the names, and what is in flight, are as they were
  pub adjusted-names : (b : Bool) → names (adjusted b now t) ≡ names t
  unfolding adjusted shifted
  adjusted-names false = refl
  adjusted-names true = ap (◌++ t.flight) (map_same name (shifted now (smallest t)) (λ q. refl) t.waiting)

  -- what is in flight is as it was
  pub adjusted_flight : (b : Bool) → (adjusted b now t).flight ≡ t.flight
  unfolding adjusted
  adjusted_flight false = refl
  adjusted_flight true = refl

  -- as many wait as before
  pub adjusted-length : (b : Bool) → length (adjusted b now t).waiting ≡ length t.waiting
  unfolding adjusted
  adjusted-length false = refl
  adjusted-length true = length-map t.waiting (shifted now (smallest t))

  -- "The arriving guest's own next number is not moved."
  pub adjusted-owner : (b : Bool) (g : ℕ) → idle t g ≡ b → g < length t.guests → owner (adjusted b now t).guests g ≡ owner t.guests g
  unfolding adjusted
  adjusted-owner false g e h = refl
  adjusted-owner true g e h = get_or-each moved 0 t.guests g nobodys h ∙ rw (zero-add g, e)

  -- a guest is as idle as before
  pub adjusted-idle : (b : Bool) (g : ℕ) → idle (adjusted b now t) g ≡ idle t g
  unfolding adjusted idle shifted
  adjusted-idle false g = refl
  adjusted-idle true g = ap empty (filter_map (of g) (shifted now (smallest t)) (λ q. refl) t.waiting) ∙ empty-map (shifted now (smallest t)) (mine g t.waiting)

  -- the numbers of guest g, moved, are in order
  moved_order : Sound t → (g : ℕ) → g < length t.guests → orderly (moved g (owner t.guests g)) (map (shifted now (smallest t)) (mine g t.waiting)) ≡ true
  unfolding idle
  moved_order s g known = go (idle t g) refl
    where
      go : (b : Bool) → idle t g ≡ b → orderly (moved g (owner t.guests g)) (map (shifted now (smallest t)) (mine g t.waiting)) ≡ true
      go true e = rw (e, map-empty (shifted now (smallest t)) (mine g t.waiting) e) (s.guests_orderly g known)
      go false e =
          rw e
          (shift_own now (smallest t) (owner t.guests g) (mine g t.waiting) (all_filter (λ q. leb (smallest t) q.stag) (of g) t.waiting (smallest-all t)) e
          (s.guests_orderly g known))

  -- and so they are in the table
  adjusted_order : Sound t → (b : Bool) (g : ℕ) → g < length t.guests → orderly (owner (adjusted b now t).guests g) (mine g (adjusted b now t).waiting) ≡ true
  unfolding adjusted shifted
  adjusted_order s false g known = s.guests_orderly g known
  adjusted_order s true g known =
      rw (get_or-each moved 0 t.guests g nobodys known, filter_map (of g) (shifted now (smallest t)) (λ q. refl) t.waiting, zero-add g)
      (moved_order s g known)

  -- the costs are as they were
  pub adjusted_costs : (f : ℕ → Bool) (b : Bool) → all (λ q. f q.cost) (adjusted b now t).waiting ≡ all (λ q. f q.cost) t.waiting
  unfolding adjusted shifted
  adjusted_costs f false = refl
  adjusted_costs f true = all_of_map (λ q. f q.cost) (shifted now (smallest t)) t.waiting

  -- the settling of the shares leaves a table firm
  adjusted-firm : Sound t → (b : Bool) → Firm (adjusted b now t)
  adjusted-firm s b =
      let k = adjusted-settings b now t in
      let n = same_count (adjusted b now t) t k in
      record {
        in_range = same-ranges (adjusted b now t) t k ∙ s.in_range;
        rule_known = same_rule (adjusted b now t) t k ∙ s.rule_known;
        flight_fits = rw (adjusted_flight b, k.setup) s.flight_fits;
        costs_fit = adjusted_costs fair b ∙ s.costs_fit;
        guests_known = rw (n, adjusted-names b) s.guests_known;
        names_once = rw (adjusted-names b) s.names_once;
        guests_orderly = λ g h. adjusted_order s b g (rw n at h);
      }

-- q may be the next request of the guest h, idle or not: each tag that h has is at least its next number, the share tag where h is not idle, and each
-- that it lacks is 0; the reservation tag falls short of the next number by a spacing at most
record Next (idle : Bool) (h : Guest) (q : Request) : Type 0 where
  reservation : reserved h.settings ≡ true → h.rnext ≤ q.rtag + rplain h.settings
  limit : limited h.settings ≡ true → h.lnext ≤ q.ltag
  share : idle ≡ false → h.snext ≤ q.stag
  no_reservation : reserved h.settings ≡ false → q.rtag ≡ 0
  no_limit : limited h.settings ≡ false → q.ltag ≡ 0

-- a request stamped by next numbers that were raised may be the next
stamped-next : (b : Bool) (now : ℕ) (a : Arriving) (h : Guest) → 1 ≤ a.delta → Next b h (stamped b now a (raised a h))
unfolding stamped share_tag raised
stamped-next b now a h d =
    let s = h.settings in
    record {
      reservation = λ e. rw e (omega arith);
      limit = λ e. rw e (omega (arith, raised_above a.delta (lplain s) h.lnext d));
      share = λ e. rw e (omega (arith, raised_above a.delta (splain s) h.snext d));
      no_reservation = λ e. rw e;
      no_limit = λ e. rw e;
    }

-- a guest with its next request placed has its numbers in order
following_order : (h : Guest) (q : Request) (l : List Request) → Next (empty l) h q → all priced l ≡ true → orderly h l ≡ true → orderly (following q h) (l ++ (q ∷ [])) ≡ true
unfolding following
following_order h q l n c e =
    let s = h.settings in
    let o = orderly_is h l e in
    is_orderly (following q h) (l ++ (q ∷ []))
    (record {
      reservations = kept_snoc Request.rtag no_gap (rspacing s) (rplain s) (λ p k. omega (arith, cost_once p.cost (rplain s) k)) (reserved s) l h.rnext q c (λ z w. n.reservation z)
          (λ z. (n.no_reservation z, cost_none q.cost (rplain s) (no_down s.reservation z))) o.reservations;
      limits = kept_snoc Request.ltag (lspacing s) (lspacing s) 0 (λ p k. omega arith) (limited s) l h.lnext q c (λ z w. omega (arith, n.limit z))
          (λ z. (n.no_limit z, cost_none q.cost (lplain s) (no_up s.limit z))) o.limits;
      shares = kept_snoc Request.stag (sspacing s) (sspacing s) 0 (λ p k. omega arith) true l h.snext q c (λ z w. omega (arith, n.share w))
          (λ z. absurd (true≢false z)) o.shares;
    })

module _ (u : Table) (c : Firm u) (now : ℕ) (q : Request) (known : q.guest < length u.guests)
    (n : Next (idle u q.guest) (owner u.guests q.guest) q) where
  -- so they are in the table, and other guests are as they were
  placed_order : (g : ℕ) → g < length u.guests → orderly (owner (placed now q u).guests g) (mine g (placed now q u).waiting) ≡ true
  unfolding placed idle
  placed_order g h = rw (filter-append (of g) u.waiting (q ∷ [])) (go (eqb g q.guest) refl)
    where
      next : Guest
      next = following q (owner u.guests q.guest)

      go : (b : Bool) → eqb g q.guest ≡ b → orderly (owner (set u.guests q.guest next) g) (mine g u.waiting ++ (if of g q then q ∷ [] else [])) ≡ true
      go true e =
          rw (eqb-true g q.guest e, eq-eqb q.guest q.guest refl, get_or-set_same u.guests q.guest next nobodys known)
          (following_order (owner u.guests q.guest) q (mine q.guest u.waiting) n (all_filter priced (of q.guest) u.waiting c.costs_fit)
          (c.guests_orderly q.guest known))
      go false e =
          rw (eqb_sym q.guest g ∙ e, get_or-set_other u.guests q.guest g next nobodys (eqb-false g q.guest e), append-nil) (c.guests_orderly g h)

  -- the placing leaves a table firm
  placed-firm : lacks (name q) (names u) ≡ true → priced q ≡ true → Firm (placed now q u)
  unfolding placed
  placed-firm new cheap =
      let k = placed-settings now q u in
      let f : Flight → Bool = λ f. ltb f.guest (length u.guests) in
      let parts = all_parts f (map name u.waiting) u.flight c.guests_known in
      let is : map name (u.waiting ++ (q ∷ [])) ++ u.flight ≡ map name u.waiting ++ name q ∷ u.flight = names_mid u.waiting [] q u.flight in
      record {
        in_range = same-ranges (placed now q u) u k ∙ c.in_range;
        rule_known = same_rule (placed now q u) u k ∙ c.rule_known;
        flight_fits = c.flight_fits;
        costs_fit = all_append priced u.waiting (q ∷ []) c.costs_fit (join cheap refl);
        guests_known = rw (same_count (placed now q u) u k, is)
            (all_append f (map name u.waiting) (name q ∷ u.flight) parts.0 (join (lt-ltb q.guest (length u.guests) known) parts.1));
        names_once = rw (is, distinct_mid (map name u.waiting) (name q) u.flight) (join new c.names_once);
        guests_orderly = λ g h. placed_order g (rw (same_count (placed now q u) u k) at h);
      }

module _ (t : Table) (s : Sound t) (now : ℕ) (a : Arriving) (known : a.guest < length t.guests) (new : lacks (called_by a) (names t) ≡ true)
    (cheap : fair a.cost ≡ true) (many : spread a.delta a.rho ≡ true) where
  -- the steps of an arrival leave a table firm
  arrive_as-firm : (b : Bool) → idle t a.guest ≡ b → Firm (arrive_as b now a t)
  unfolding arrive_as stamped
  arrive_as-firm b e =
      placed-firm (adjusted b now t) (adjusted-firm t now s b) now (stamped_for b now a t)
      (rw (same_count (adjusted b now t) t (adjusted-settings b now t)) known)
      (rw (adjusted-owner t now b a.guest e known, adjusted-idle t now b a.guest ∙ e) (stamped-next b now a (owner t.guests a.guest) (spread-some a.delta a.rho many)))
      (rw (adjusted-names t now b) new) cheap

  -- and sound where its tests passed
  arrive_as-sound : (b : Bool) → idle t a.guest ≡ b → now ≤ ceiling → length t.waiting < t.setup.capacity → passing b now a t ≡ false → Sound (arrive_as b now a t)
  unfolding arrive_as placed
  arrive_as-sound b e time room fit =
      let c = arrive_as-firm b e in
      let q = stamped_for b now a t in
      let w = (adjusted b now t).waiting in
      let f = both (all lawful w) (lawful q) (not-false (all lawful w && lawful q) fit) in
      record {
        in_range = c.in_range;
        rule_known = c.rule_known;
        waiting-fits = rw (length-append w (q ∷ []), adjusted-length t now b, (adjusted-settings b now t).setup) (omega arith);
        flight_fits = c.flight_fits;
        time_fits = time;
        guests_known = c.guests_known;
        names_once = c.names_once;
        tags_fit = all_append lawful w (q ∷ []) f.0 (join f.1 refl);
        costs_fit = c.costs_fit;
        guests_orderly = c.guests_orderly;
      }

  -- An arrival that passes its tests keeps a table sound.
  pub arrive-sound : now ≤ ceiling → length t.waiting < t.setup.capacity → passing (idle t a.guest) now a t ≡ false → Sound (arrive now a t)
  unfolding arrive
  arrive-sound = arrive_as-sound (idle t a.guest) refl
