-- The rows that tie, over the lent numbers: what the functions that look for another gate's request know. Assumes nothing.
use Rattle.std.specs.Prelude.{Option, Some, None}
use Prim.Native.Nat.{ℕ, zero, suc, ◌+◌, ◌*◌, ◌≤◌, ◌<◌}
use mathlib.Core.Path.{◌≡◌, refl, sym, ap, ◌∙◌, subst}
use mathlib.Core.Bool.{Bool, true, false, not, ◌&&◌, true≢false}
use mathlib.Core.List.{List, [], ◌∷◌, ◌++◌, map}
use mathlib.Core.Logic.{⊎_elim}
use native.Mathlib.Omega.{arith}
use native.Mathlib.Nat.{zero-add}
use lib.Dec.{ltb, leb, eqb}
use lib.ListN.{length}
use borrow.Author.Tests.{lt-ltb, le-leb, lt-leb, eq-eqb, eqb-true, ne_eqb, not-true}
use Rattle.lists.specs.Words.{all}
use Rattle.lists.specs.Tab.{lt_or_le}
use Rattle.lists.specs.WordsLaws.{both, join, left_fails, right_fails, all_parts}
use Rattle.lists.specs.RowsLaws.{length-rows}
use Rattle.rules.specs.Tables.{Request, Table, reserved, owner, settings_of, name, same, lacks}
use Rattle.rules.specs.Sound.{distinct}
use Rattle.rules.specs.Choice.{due_at, passes, open?}
use Rattle.rules.specs.Chosen.{at, Foremost}
use Rattle.rules.specs.declared.Guest.{Guest}
use Rattle.rules.specs.declared.Flight.{Flight}
use Rattle.rules.specs.declared.Gate.{Gate}
use Rattle.rules.specs.declared.Phase.{Phase}
use Rattle.rules.specs.declared.Phase.TheVariants.{Reservation, Weight}
use Rattle.rules.specs.declared.Answer.{Answer}
use Rattle.rules.specs.declared.Answer.TheVariants.{Sent}
use Rattle.rules.proofs.Facts.{Sound, sound_is}
use Rattle.rules.proofs.Chosen.{due_means}
use Rattle.rules.proofs.Places.{Says, least-place}
use Rattle.table.specs.Columns.{RESERVATION, guest_wide, GUEST, ID, RTAG, LTAG, STAG, waiting_wide, most_guests, guest_at, waiting_at}
use Rattle.table.specs.View.{request_form, waiting_of, table_of, Known}
use Rattle.table.proofs.Facts.{facts, rows_ask, row_is, guest_is}
use Rattle.walks.specs.LeastLaws.{open_by_tag}
use Rattle.walks.specs.Walks.{Picks}
use Rattle.sends.proofs.Phases.{limit_zero, passes_by_tag}
use Rattle.std.proofs.lemmas.Option.{none-some, same_Some}
use Rattle.lines.specs.Line.{line_of}
use Rattle.judge.specs.Judging.{begins, ok_in, tag_in, ties, named, place_from}
use Rattle.judge.specs.Hearing.{size_if, tag_column, latest_in, Timely, Tells}
use Rattle.judge.specs.declared.Told.{Told}
use Rattle.judge.proofs.Places.{place_found, place_none}

-- EVERY NAME ONCE

-- in a list of requests with names that stand once, two places have two names
names_apart : (w : List Request) (l : List Flight) → distinct (map name w ++ l) ≡ true → (i j : ℕ) → i < j → j < length w → name (at w i) ≡ name (at w j) → ⊥
unfolding distinct
names_apart [] l d i j h k e = absurd (omega arith)
names_apart (q ∷ w) l d i zero h k e = absurd (omega arith)
names_apart (q ∷ w) l d zero (suc j) h k e =
    let c = both (lacks (name q) (map name w ++ l)) (distinct (map name w ++ l)) d in
    let f : Flight → Bool = λ b. not (same (name q) b) in
    let m = lacks-at w (all_parts f (map name w) l c.0).0 j (omega arith) in
    true≢false (sym (join (eq-eqb q.guest (at w j).guest (ap Flight.guest e)) (eq-eqb q.id (at w j).id (ap Flight.id e))) ∙ not-true (same (name q) (name (at w j))) m)
  where
    lacks-at : (v : List Request) → all (λ b. not (same (name q) b)) (map name v) ≡ true → (i : ℕ) → i < length v → not (same (name q) (name (at v i))) ≡ true
    lacks-at [] a i h = absurd (omega arith)
    lacks-at (p ∷ v) a zero h = (both (not (same (name q) (name p))) (all (λ b. not (same (name q) b)) (map name v)) a).0
    lacks-at (p ∷ v) a (suc i) h = lacks-at v (both (not (same (name q) (name p))) (all (λ b. not (same (name q) b)) (map name v)) a).1 i (omega arith)
names_apart (q ∷ w) l d (suc i) (suc j) h k e = names_apart w l (both (lacks (name q) (map name w ++ l)) (distinct (map name w ++ l)) d).1 i j (omega arith) (omega arith) e

-- so a name has one place
pub one_place : (t : Table) → Sound t → (i j : ℕ) → i < length t.waiting → j < length t.waiting → name (at t.waiting i) ≡ name (at t.waiting j) → i ≡ j
one_place t s i j h k e =
    ⊎_elim (λ l. absurd (names_apart t.waiting t.flight s.names_once i j l k e))
    (λ l. ⊎_elim (λ m. absurd (names_apart t.waiting t.flight s.names_once j i m h (sym e))) (λ m. omega arith) (lt_or_le j i)) (lt_or_le i j)

-- what is picked at a place stands foremost there
pub foremost_at : (t : Table) → Sound t → (ok : Request → Bool) (tag : Request → ℕ) (place : ℕ) → Picks ok tag t.waiting (Some place) → Foremost ok tag t.waiting place
foremost_at t s ok tag place p =
    let a = subst (Says ok tag t.waiting) p.pick (least-place ok tag t.waiting) in
    let e : a.place ≡ place = one_place t s a.place place a.foremost.inside p.inside (ap name (sym a.request)) in
    subst (Foremost ok tag t.waiting) e a.foremost

-- A ROW

module _ (g : Gate) (gs ws fs : List ℕ) (k : Known g gs ws fs) (place : ℕ) (here : place < g.waiting) where
  abbrev t : Table
  t = table_of g gs ws fs

  abbrev q : Request
  q = at t.waiting place

  inside : place < length t.waiting
  inside = omega (arith, length-rows request_form ws g.waiting)

  abbrev n : ℕ
  n = waiting_at ws place GUEST

  -- its numbers are there, and those of its guest
  pub row-there : (place * waiting_wide + waiting_wide ≤ length ws) × (n * guest_wide + guest_wide ≤ length gs) × (n ≤ most_guests)
  row-there =
      let f = facts g gs ws fs k in
      (omega (arith, (rows_ask g gs ws fs k).1), omega (arith, f.owners place here, k.guest_room), omega (arith, f.owners place here, f.counts.guest-count.1))

  -- its id has 32 bits
  pub id_there : waiting_at ws place ID < 4294967296
  id_there = (facts g gs ws fs k).ids place here

  pub guest-there : q.guest ≡ n
  guest-there = ap Request.guest (row_is g gs ws fs k place here)

  pub send_there : (p : Phase) → Sent p n (waiting_at ws place ID) ≡ Sent p q.guest q.id
  send_there p = λ i. Sent p (sym guest-there i) (sym (ap Request.id (row_is g gs ws fs k place here)) i)

  pub tag-there : (p : Phase) → tag_in p q ≡ waiting_at ws place (tag_column p)
  tag-there Reservation = ap Request.rtag (row_is g gs ws fs k place here)
  tag-there Weight = ap Request.stag (row_is g gs ws fs k place here)

  limit_there : q.ltag ≡ waiting_at ws place LTAG
  limit_there = ap Request.ltag (row_is g gs ws fs k place here)

  reservation_there : (settings_of t.guests q).reservation ≡ guest_at gs n RESERVATION
  reservation_there =
      ap (λ (m : ℕ). (owner t.guests m).settings.reservation) guest-there
      ∙ ap (λ (h : Guest). h.settings.reservation) (guest_is g gs ws fs k n ((facts g gs ws fs k).owners place here))

  open_there : open? t q ≡ leb q.ltag g.time
  open_there = open_by_tag (settings_of t.guests q) g.time q (limit_zero g gs ws fs k place inside)

  -- whether it ties does not depend on what is in flight
  pub ties_any : (p : Phase) (m : ℕ) (es : List ℕ) → ties p t m q ≡ ties p (table_of g gs ws es) m q
  ties_any Reservation m es = refl
  ties_any Weight m es = refl

  -- ITS TESTS

  -- its limit tag is too late
  pub tied-late : (p : Phase) (latest m : ℕ) → latest ≡ latest_in p g → latest < waiting_at ws place LTAG → false ≡ ties p t m q
  tied-late Reservation latest m e h =
      sym (left_fails (eqb q.rtag m) (right_fails (due_at (settings_of t.guests q) g.time q) (passes_by_tag g gs ws fs k place inside ∙ lt-leb q.ltag (latest_in Reservation g) (omega (arith, limit_there)))))
  tied-late Weight latest m e h = sym (left_fails (eqb q.stag m) (open_there ∙ lt-leb q.ltag g.time (omega (arith, limit_there))))

  -- its guest has no reservation
  pub tied-none : (p : Phase) (m : ℕ) → p ≡ Reservation → guest_at gs n RESERVATION ≡ 0 → false ≡ ties p t m q
  unfolding due_at
  tied-none p m e z =
      let none : reserved (settings_of t.guests q) ≡ false = ap (ltb 0) (reservation_there ∙ z) in
      sym (ap (λ (x : Phase). ties x t m q) e ∙ left_fails (eqb q.rtag m) (left_fails (passes t q) (left_fails (leb q.rtag g.time) none)))

  -- in the weight phase its tag is left to test
  pub tied-weight : (p : Phase) (latest m : ℕ) → p ≡ Weight → latest ≡ latest_in p g → waiting_at ws place LTAG ≤ latest → eqb (waiting_at ws place STAG) m ≡ ties p t m q
  tied-weight p latest m e f h =
      let late : latest ≡ g.time = f ∙ ap (λ (x : Phase). latest_in x g) e in
      let o : open? t q ≡ true = open_there ∙ le-leb q.ltag g.time (omega (arith, limit_there)) in
      let z : ties Weight t m q ≡ eqb (waiting_at ws place STAG) m = rw o (ap (λ (x : ℕ). eqb x m) (tag-there Weight)) in
      sym (ap (λ (x : Phase). ties x t m q) e ∙ z)

  -- and so in the reservation phase, where the tag that it is held against is due
  pub tied_reservation : (p : Phase) (latest m : ℕ) → p ≡ Reservation → latest ≡ latest_in p g → Timely p m g → waiting_at ws place LTAG ≤ latest → (guest_at gs n RESERVATION ≡ 0 → ⊥)
      → eqb (waiting_at ws place RTAG) m ≡ ties p t m q
  unfolding due_at
  tied_reservation p latest m e f u h r =
      let late : latest ≡ latest_in Reservation g = f ∙ ap (λ (x : Phase). latest_in x g) e in
      let timely : m ≤ g.time = subst (λ (x : Phase). Timely x m g) e u in
      let has : reserved (settings_of t.guests q) ≡ true = lt-ltb 0 (settings_of t.guests q).reservation (omega (arith, r, reservation_there)) in
      let passing : passes t q ≡ true = passes_by_tag g gs ws fs k place inside ∙ le-leb q.ltag (latest_in Reservation g) (omega (arith, limit_there)) in
      let z : ties Reservation t m q ≡ eqb (waiting_at ws place RTAG) m = rw (has, passing) (go (leb q.rtag g.time) refl (eqb q.rtag m) refl timely ∙ ap (λ (x : ℕ). eqb x m) (tag-there Reservation)) in
      sym (ap (λ (x : Phase). ties x t m q) e ∙ z)
    where
      go : (a : Bool) → leb q.rtag g.time ≡ a → (b : Bool) → eqb q.rtag m ≡ b → m ≤ g.time → (a && true) && b ≡ b
      go true x b y z = refl
      go false x false y z = refl
      go false x true y z = absurd (true≢false (sym (le-leb q.rtag g.time (omega (arith, eqb-true q.rtag m y))) ∙ x))

  -- ITS LINE

  module _ (p : Phase) (m number : ℕ) (ls : List ℕ) where
    abbrev line : List ℕ
    line = line_of number (Sent p n (waiting_at ws place ID))

    is_named : named number ls p t m q ≡ ties p t m q && begins line ls
    is_named = ap (λ (a : Answer). ties p t m q && begins (line_of number a) ls) (sym (send_there p))

    pub size_untied : (b : Bool) → b ≡ ties p t m q → b ≡ false → None ≡ size_if (named number ls p t m q) line
    size_untied b e h = ap (λ (c : Bool). size_if c line) (sym (is_named ∙ left_fails (begins line ls) (sym e ∙ h)))

    pub size-tied : (b : Bool) → b ≡ ties p t m q → b ≡ true → (a : Answer) → a ≡ Sent p n (waiting_at ws place ID) → (r : Option ℕ) → r ≡ size_if (begins (line_of number a) ls) (line_of number a)
        → r ≡ size_if (named number ls p t m q) line
    size-tied b e h a f r z =
        z ∙ ap (λ (c : Answer). size_if (begins (line_of number c) ls) (line_of number c)) f
        ∙ ap (λ (c : Bool). size_if c line) (sym (is_named ∙ ap (λ (c : Bool). c && begins line ls) (sym e ∙ h)))

    pub named_any : (es : List ℕ) → named number ls p t m q ≡ named number ls p (table_of g gs ws es) m q
    named_any es = ap (λ (c : Bool). c && begins (line_of number (Sent p q.guest q.id)) ls) (ties_any p m es)

-- there is no size where the test fails, and only there
pub size_none : (b : Bool) (xs : List ℕ) → None ≡ size_if b xs → b ≡ false
size_none true xs e = absurd (none-some (length xs) e)
size_none false xs e = refl

-- so it is of a printed line
pub size_zero : (b : Bool) (number : ℕ) (a : Answer) → size_if b (line_of number a) ≡ None → b ≡ false
size_zero b number a e = size_none b (line_of number a) (sym e)

pub size-some : (b : Bool) (xs : List ℕ) (long : ℕ) → Some long ≡ size_if b xs → (b ≡ true) × (long ≡ length xs)
size-some true xs long e = (refl, same_Some long (length xs) e)
size-some false xs long e = absurd (none-some long (sym e))

-- THE SEARCH

module _ (g : Gate) (gs ws fs : List ℕ) (k : Known g gs ws fs) (place : ℕ) (p : Phase) (picks : Picks (ok_in p (table_of g gs ws fs)) (tag_in p) (waiting_of ws g.waiting) (Some place)) where
  abbrev u : Table
  u = table_of g gs ws fs

  pub stands_foremost : Foremost (ok_in p u) (tag_in p) u.waiting place
  stands_foremost = foremost_at u (sound_is u k.is_sound) (ok_in p u) (tag_in p) place picks

  pub place_here : place < g.waiting
  place_here = omega (arith, picks.inside, length-rows request_form ws g.waiting)

  -- a tag that the reservation phase picks is due
  timely_by : (p : Phase) → ok_in p u (at u.waiting place) ≡ true → Timely p (tag_in p (at u.waiting place)) g
  timely_by Reservation e = ((due_means u (at u.waiting place)).0 e).at_or_before
  timely_by Weight e = tt

  module _ (tag : ℕ) (is : tag ≡ waiting_at ws place (tag_column p)) where
    pub tag_is : tag_in p (at u.waiting place) ≡ tag
    tag_is = tag-there g gs ws fs k place place_here p ∙ sym is

    pub tag-timely : Timely p tag g
    tag-timely = subst (λ (m : ℕ). Timely p m g) tag_is (timely_by p stands_foremost.good)

    module _ (number : ℕ) (ls : List ℕ) where
      abbrev f : Request → Bool
      f = named number ls p u tag

      -- none before the place ties
      pub none_before : (j : ℕ) → j < place → f (at u.waiting j) ≡ false
      none_before j l = go (ok_in p u (at u.waiting j)) refl
        where
          go : (b : Bool) → ok_in p u (at u.waiting j) ≡ b → (b && eqb (tag_in p (at u.waiting j)) tag) && begins (line_of number (Sent p (at u.waiting j).guest (at u.waiting j).id)) ls ≡ false
          go false e = refl
          go true e =
              left_fails (begins (line_of number (Sent p (at u.waiting j).guest (at u.waiting j).id)) ls)
              (ne_eqb (tag_in p (at u.waiting j)) tag (λ z. omega (arith, stands_foremost.earliest j l e, tag_is)))

      size_of : (i : ℕ) → i < g.waiting → line_of number (Sent p (waiting_at ws i GUEST) (waiting_at ws i ID)) ≡ line_of number (Sent p (at u.waiting i).guest (at u.waiting i).id)
      size_of i h = ap (line_of number) (send_there g gs ws fs k i h p)

      -- the first whose line is heard
      pub tells-one : (i long : ℕ) → i < g.waiting → ((j : ℕ) → j < i → f (at u.waiting j) ≡ false)
          → Some long ≡ size_if (f (at u.waiting i)) (line_of number (Sent p (waiting_at ws i GUEST) (waiting_at ws i ID))) → Tells number ls p u place (Some (record { place = i; long = long }))
      tells-one i long h n e =
          let y = size-some (f (at u.waiting i)) (line_of number (Sent p (waiting_at ws i GUEST) (waiting_at ws i ID))) long e in
          let z = place_found f 0 u.waiting i (omega (arith, length-rows request_form ws g.waiting)) y.0 n ∙ ap Some (zero-add i) in
          record { one = ap (λ (m : ℕ). place_from (named number ls p u m) 0 u.waiting) tag_is ∙ z; size = y.1 ∙ ap length (size_of i h) }

      -- no line is heard
      pub tells_none : (i : ℕ) → g.waiting ≤ i → ((j : ℕ) → j < i → f (at u.waiting j) ≡ false) → Tells number ls p u place None
      tells_none i h n =
          ap (λ (m : ℕ). place_from (named number ls p u m) 0 u.waiting) tag_is ∙ place_none f 0 u.waiting (λ j l. n j (omega (arith, length-rows request_form ws g.waiting)))

-- a pick does not depend on what is in flight
pub picks_any : (g : Gate) (gs ws fs es : List ℕ) (p : Phase) (place : ℕ) → Picks (ok_in p (table_of g gs ws fs)) (tag_in p) (waiting_of ws g.waiting) (Some place)
    → Picks (ok_in p (table_of g gs ws es)) (tag_in p) (waiting_of ws g.waiting) (Some place)
picks_any g gs ws fs es Reservation place h = h
picks_any g gs ws fs es Weight place h = h

-- nor does what is told
pub tells_any : (number : ℕ) (ls : List ℕ) (g : Gate) (gs ws fs es : List ℕ) (p : Phase) (place : ℕ) (r : Option Told) → Tells number ls p (table_of g gs ws fs) place r
    → Tells number ls p (table_of g gs ws es) place r
tells_any number ls g gs ws fs es Reservation place (Some r) h = record { one = h.one; size = h.size }
tells_any number ls g gs ws fs es Weight place (Some r) h = record { one = h.one; size = h.size }
tells_any number ls g gs ws fs es Reservation place None h = h
tells_any number ls g gs ws fs es Weight place None h = h
