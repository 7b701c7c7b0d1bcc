-- The notes of a run beside what waits of one guest: those that the run accepted at or after a stand last, and their limit tags, and the guest's next
-- limit number from a on, are at least m. What is left of that where requests change, come and go. Assumes nothing.
use mathlib.Core.Path.{◌≡◌, refl, sym, ap, ap₂, ◌∙◌}
use mathlib.Core.Bool.{Bool, true, false, not, ◌&&◌, false≢true}
use mathlib.Core.List.{List, [], ◌∷◌, ◌++◌, map, append-nil, append_assoc, nil≢cons, head-eq_of_cons-eq, tail-eq_of_cons-eq}
use mathlib.Core.Logic.{◌⊎◌, inl, inr, ⊎_elim}
use Prim.Native.Nat.{ℕ, ◌≤◌, ◌<◌, ◌+◌, ◌-◌, ◌*◌, max}
use native.Mathlib.Omega.{arith}
use native.Mathlib.Nat.{add-mul}
use lib.Dec.{leb, eqb}
use borrow.Author.Tests.{leb-true, leb-false, le-leb, lt-leb, eqb-true, eq-eqb}
use Rattle.lists.specs.Words.{if◌then◌else◌, all, filter}
use Rattle.lists.specs.WordsLaws.{both, join, all_append, all_parts, all_same, map-append}
use Rattle.rules.specs.Tables.{Request, name, same}
use Rattle.rules.specs.declared.Flight.{Flight}
use Rattle.rules.specs.declared.Phase.{Phase}
use Rattle.worth.specs.Passages.{Note, called, latest, Passage, gone}
use Rattle.worth.specs.Worth.{is_weight, cost_but_last}

-- what is noted under a request's name: that it was accepted at or after a, at this cost
abbrev note_since : (a cost : ℕ) → List Note → Bool
note_since a c [] = false
note_since a c (x ∷ []) = eqb x.cost c && leb a x.time
note_since a c (x ∷ y ∷ l) = false

-- or not at or after a
abbrev note_before : (a : ℕ) → List Note → Bool
note_before a l = all (λ x. not (leb a x.time)) l

-- the requests l of a guest, its next limit number and the time, beside the notes h
pub record Kept (a m : ℕ) (h : List Note) (l : List Request) (next now : ℕ) : Type 0 where
  old : List Request
  new : List Request
  stands : l ≡ old ++ new
  olds : all (λ q. note_before a (latest (name q) h)) old ≡ true
  news : all (λ q. note_since a q.cost (latest (name q) h)) new ≡ true
  high : all (λ q. leb m q.ltag) new ≡ true
  ahead : m ≤ max next a
  begun : (new ≡ []) ⊎ (a ≤ now)

-- nothing is noted yet
none_before : (a : ℕ) (l : List Request) → all (λ q. note_before a (latest (name q) [])) l ≡ true
none_before a [] = refl
none_before a (q ∷ l) = none_before a l

-- before a run all that waits is old, and a itself is the bound
pub kept-begins : (a : ℕ) (l : List Request) (next now : ℕ) → Kept a a [] l next now
kept-begins a l next now =
    record { old = l; new = []; stands = sym (append-nil l); olds = none_before a l; news = refl; high = refl; ahead = omega arith; begun = inl refl }

-- later it is still so
pub kept-later : (a m : ℕ) (h : List Note) (l : List Request) (next now now' : ℕ) → now ≤ now' → Kept a m h l next now → Kept a m h l next now'
kept-later a m h l next now now' le k =
    record {
      old = k.old;
      new = k.new;
      stands = k.stands;
      olds = k.olds;
      news = k.news;
      high = k.high;
      ahead = k.ahead;
      begun = ⊎_elim inl (λ b. inr (omega arith)) k.begun;
    }

-- and where requests change in nothing but reservation and share tags
pub kept_like : (a m : ℕ) (h : List Note) (f : Request → Request) → ((q : Request) → name (f q) ≡ name q) → ((q : Request) → (f q).cost ≡ q.cost)
    → ((q : Request) → (f q).ltag ≡ q.ltag) → (l : List Request) (next now : ℕ) → Kept a m h l next now → Kept a m h (map f l) next now
kept_like a m h f names costs ltags l next now k =
    record {
      old = map f k.old;
      new = map f k.new;
      stands = ap (map f) k.stands ∙ map-append f k.old k.new;
      olds = all_same (λ q. note_before a (latest (name q) h)) f (λ q. ap (λ (n : Flight). note_before a (latest n h)) (names q)) k.old ∙ k.olds;
      news = all_same (λ q. note_since a q.cost (latest (name q) h)) f
          (λ q. ap₂ (λ (c : ℕ) (n : Flight). note_since a c (latest n h)) (costs q) (names q)) k.new ∙ k.news;
      high = all_same (λ q. leb m q.ltag) f (λ q. ap (leb m) (ltags q)) k.new ∙ k.high;
      ahead = k.ahead;
      begun = ⊎_elim (λ e. inl (ap (map f) e)) inr k.begun;
    }

-- A REQUEST COMES

-- none of the requests has the name of the note x
abbrev pub Lack : Note → List Request → Type 0
Lack x l = all (λ q. not (same (called x) (name q))) l ≡ true

-- a test that fails
not-true : (b : Bool) → not b ≡ true → b ≡ false
not-true true e = absurd (false≢true e)
not-true false e = refl

-- a note under another name changes nothing of what is noted under theirs
pub other_note : (f : Request → List Note → Bool) (x : Note) (h : List Note) (l : List Request) → Lack x l
    → all (λ q. f q (latest (name q) (x ∷ h))) l ≡ all (λ q. f q (latest (name q) h)) l
other_note f x h [] n = refl
other_note f x h (q ∷ l) n =
    let c = both (not (same (called x) (name q))) (all (λ q. not (same (called x) (name q))) l) n in
    let here : f q (latest (name q) (x ∷ h)) ≡ f q (latest (name q) h) = rw (not-true (same (called x) (name q)) c.0) in
    ap₂ ◌&&◌ here (other_note f x h l c.1)

module _ (a m : ℕ) (h : List Note) (x : Note) (l : List Request) (next now : ℕ) (lack : Lack x l) (k : Kept a m h l next now) where
  -- those parts lack its name too
  parts : (Lack x k.old) × (Lack x k.new)
  parts = all_parts (λ q. not (same (called x) (name q))) k.old k.new (rw k.stands at lack)

  -- what is noted of the old
  olds_still : all (λ q. note_before a (latest (name q) (x ∷ h))) k.old ≡ true
  olds_still = other_note (λ q. note_before a) x h k.old parts.0 ∙ k.olds

  -- and of the new
  news_still : all (λ q. note_since a q.cost (latest (name q) (x ∷ h))) k.new ≡ true
  news_still = other_note (λ q. note_since a q.cost) x h k.new parts.1 ∙ k.news

  -- another guest's request is noted
  pub kept-noted : Kept a m (x ∷ h) l next now
  kept-noted =
      record {
        old = k.old;
        new = k.new;
        stands = k.stands;
        olds = olds_still;
        news = news_still;
        high = k.high;
        ahead = k.ahead;
        begun = k.begun;
      }

  module _ (q : Request) (named : same (called x) (name q) ≡ true) (priced : x.cost ≡ q.cost) (next' : ℕ) (tagged : max next x.time ≤ q.ltag)
      (follows : q.ltag ≤ next') (later : now ≤ x.time) where
    -- it comes at or after a, and is new
    comes-new : a ≤ x.time → Kept a m (x ∷ h) (l ++ (q ∷ [])) next' x.time
    comes-new b =
        let noted : note_since a q.cost (latest (name q) (x ∷ h)) ≡ true = rw named (join (eq-eqb x.cost q.cost priced) (le-leb a x.time b)) in
        record {
          old = k.old;
          new = k.new ++ (q ∷ []);
          stands = ap (◌++ (q ∷ [])) k.stands ∙ append_assoc k.old k.new (q ∷ []);
          olds = olds_still;
          news = all_append (λ q. note_since a q.cost (latest (name q) (x ∷ h))) k.new (q ∷ []) news_still (join noted refl);
          high = all_append (λ q. leb m q.ltag) k.new (q ∷ []) k.high (join (le-leb m q.ltag (omega (arith, k.ahead))) refl);
          ahead = omega (arith, k.ahead);
          begun = inr b;
        }

    -- or before a, and is old, for nothing is new yet
    comes_old : x.time < a → k.new ≡ [] → Kept a m (x ∷ h) (l ++ (q ∷ [])) next' x.time
    comes_old b e =
        let noted : note_before a (latest (name q) (x ∷ h)) ≡ true = rw named (join (ap not (lt-leb a x.time b)) refl) in
        record {
          old = k.old ++ (q ∷ []);
          new = [];
          stands = ap (◌++ (q ∷ [])) (k.stands ∙ ap (k.old ++◌) e ∙ append-nil k.old) ∙ sym (append-nil (k.old ++ (q ∷ [])));
          olds = all_append (λ q. note_before a (latest (name q) (x ∷ h))) k.old (q ∷ []) olds_still (join noted refl);
          news = refl;
          high = refl;
          ahead = omega (arith, k.ahead);
          begun = inl refl;
        }

    -- the guest's own request is noted and stands last
    pub kept-comes : Kept a m (x ∷ h) (l ++ (q ∷ [])) next' x.time
    kept-comes = go (leb a x.time) refl
      where
        go : (b : Bool) → leb a x.time ≡ b → Kept a m (x ∷ h) (l ++ (q ∷ [])) next' x.time
        go true e = comes-new (leb-true a x.time e)
        go false e =
            let early = leb-false a x.time e in
            ⊎_elim (comes_old early) (λ b. absurd (omega arith)) k.begun

-- A REQUEST GOES

-- how m rises to m' with the passages that count: by the cost of one, times the spacing d, whose time m had come by b
abbrev pub Pays : (d b m m' : ℕ) → List Passage → Type 0
Pays d b m m' [] = m ≤ m'
Pays d b m m' (y ∷ []) = (m + y.cost * d ≤ m') × (m ≤ b)
Pays d b m m' (y ∷ z ∷ l) = ⊥

-- m passages on there is a bound m' that holds of what is left
pub record Left (a d b m : ℕ) (h : List Note) (l : List Request) (next now : ℕ) (out : List Passage) : Type 0 where
  pub most : ℕ
  pub kept : Kept a most h l next now
  pub pays : Pays d b m most out

-- which passages count: of guest g, that came at or after a and went by b, by weight or under rule 2
pub record Counts (g a b rule : ℕ) (ok : Passage → Bool) : Type 0 where
  pub guest : (y : Passage) → ok y ≡ true → eqb y.guest g ≡ true
  pub came : (y : Passage) → ok y ≡ true → leb a y.came ≡ true
  pub went : (y : Passage) → ok y ≡ true → y.went ≤ b
  pub phase : (y : Passage) → ok y ≡ true → (is_weight y.phase ≡ true) ⊎ (rule ≡ 2)

-- a test that cannot hold
refuted : (b : Bool) → (b ≡ true → ⊥) → b ≡ false
refuted true f = absurd (f refl)
refuted false f = refl

module _ (g a b rule d : ℕ) (ok : Passage → Bool) (c : Counts g a b rule ok) (p : Phase) (now m : ℕ) where
  -- another guest's passage does not count
  pub other_unpaid : (g' : ℕ) → eqb g' g ≡ false → (k : List Note) → Pays d b m m (filter ok (map (gone p g' now) k))
  other_unpaid g' e [] = omega arith
  other_unpaid g' e (x ∷ k) = rw (refuted (ok (gone p g' now x)) (λ o. false≢true (sym e ∙ c.guest (gone p g' now x) o))) (other_unpaid g' e k)

  -- nor one that came before a
  before_unpaid : (k : List Note) → note_before a k ≡ true → Pays d b m m (filter ok (map (gone p g now) k))
  before_unpaid [] n = omega arith
  before_unpaid (x ∷ k) n =
      let z = both (not (leb a x.time)) (all (λ x. not (leb a x.time)) k) n in
      let early = not-true (leb a x.time) z.0 in
      rw (refuted (ok (gone p g now x)) (λ o. false≢true (sym early ∙ c.came (gone p g now x) o))) (before_unpaid k z.1)

  module _ (q : Request) (opened : (is_weight p ≡ true) ⊎ (rule ≡ 2) → q.ltag ≤ now) (reached : m ≤ q.ltag) where
    -- one that came since pays its cost, if it counts
    since_pays : (k : List Note) → note_since a q.cost k ≡ true → Pays d b m (q.ltag + q.cost * d) (filter ok (map (gone p g now) k))
    since_pays [] n = absurd (false≢true n)
    since_pays (x ∷ y ∷ k) n = absurd (false≢true n)
    since_pays (x ∷ []) n = go (ok (gone p g now x)) refl
      where
        z : x.cost ≡ q.cost
        z = eqb-true x.cost q.cost (both (eqb x.cost q.cost) (leb a x.time) n).0

        go : (o : Bool) → ok (gone p g now x) ≡ o → Pays d b m (q.ltag + q.cost * d) (if o then gone p g now x ∷ [] else [])
        go true e =
            let due = opened (c.phase (gone p g now x) e) in
            let by = c.went (gone p g now x) e in
            let paid : x.cost * d ≡ q.cost * d = ap (◌* d) z in
            (omega arith, omega arith)
        go false e = omega arith

  -- the guest's first request q goes, and v is left: it is old, and nothing is paid, or it is new, and so is all that is left, a spacing further on
  pub kept_goes : (q : Request) (v : List Request) (next : ℕ) (h : List Note) → ((is_weight p ≡ true) ⊎ (rule ≡ 2) → q.ltag ≤ now)
      → all (λ y. leb (q.ltag + q.cost * d) y.ltag) v ≡ true → q.ltag + q.cost * d ≤ next → Kept a m h (q ∷ v) next now
      → Left a d b m h v next now (filter ok (map (gone p g now) (latest (name q) h)))
  kept_goes q v next h opened above over k = go k.old k.stands k.olds
    where
      new-goes : q ∷ v ≡ k.new → Left a d b m h v next now (filter ok (map (gone p g now) (latest (name q) h)))
      new-goes e =
          let n = both (note_since a q.cost (latest (name q) h)) (all (λ q. note_since a q.cost (latest (name q) h)) v) (rw (← e) at k.news) in
          let f = both (leb m q.ltag) (all (λ q. leb m q.ltag) v) (rw (← e) at k.high) in
          record {
            most = q.ltag + q.cost * d;
            kept = record {
              old = [];
              new = v;
              stands = refl;
              olds = refl;
              news = n.1;
              high = above;
              ahead = omega arith;
              begun = ⊎_elim (λ z. absurd (nil≢cons (sym (e ∙ z)))) inr k.begun;
            };
            pays = since_pays q opened (leb-true m q.ltag f.0) (latest (name q) h) n.0;
          }

      old_goes : (o : List Request) → v ≡ o ++ k.new → note_before a (latest (name q) h) ≡ true → all (λ q. note_before a (latest (name q) h)) o ≡ true
          → Left a d b m h v next now (filter ok (map (gone p g now) (latest (name q) h)))
      old_goes o e early olds =
          record {
            most = m;
            kept = record { old = o; new = k.new; stands = e; olds = olds; news = k.news; high = k.high; ahead = k.ahead; begun = k.begun };
            pays = before_unpaid (latest (name q) h) early;
          }

      go : (o : List Request) → q ∷ v ≡ o ++ k.new → all (λ q. note_before a (latest (name q) h)) o ≡ true
          → Left a d b m h v next now (filter ok (map (gone p g now) (latest (name q) h)))
      go [] e olds = new-goes e
      go (x ∷ o) e olds =
          let z = both (note_before a (latest (name x) h)) (all (λ q. note_before a (latest (name q) h)) o) olds in
          old_goes o (tail-eq_of_cons-eq e) (rw (← head-eq_of_cons-eq e) at z.0) z.1

-- A RUN

-- what counts of the passages ahead, from m on, is within b
abbrev pub Room : (d b m : ℕ) → List Passage → Type 0
Room d b m [] = Unit {0}
Room d b m (y ∷ l) = cost_but_last (y ∷ l) * d + m ≤ b

-- a larger bound leaves less
room_less : (d b m m' : ℕ) → m ≤ m' → (l : List Passage) → Room d b m' l → Room d b m l
room_less d b m m' le [] r = tt
room_less d b m m' le (y ∷ l) r = omega arith

-- passages that pay, and then those ahead
pub room-more : (d b m m' : ℕ) (k l : List Passage) → Pays d b m m' k → Room d b m' l → Room d b m (k ++ l)
room-more d b m m' [] l p r = room_less d b m m' p l r
room-more d b m m' (y ∷ []) [] p r = omega (arith, p.1)
room-more d b m m' (y ∷ []) (z ∷ l) p r = rw (add-mul y.cost (cost_but_last (z ∷ l)) d) (omega (arith, p.0))
room-more d b m m' (y ∷ z ∷ k) l p r = absurd p

-- from a to b
pub room_of : (d a b : ℕ) → a ≤ b → (l : List Passage) → Room d b a l → cost_but_last l * d ≤ b - a
room_of d a b le [] r = omega arith
room_of d a b le (y ∷ l) r = omega arith
