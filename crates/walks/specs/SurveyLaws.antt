-- What the walks of the survey find, a row to a turn: the rows passed so far are the last rows in the search for a guest's own, the first rows in that
-- for the ends. Assumes nothing.
use Rattle.std.specs.Prelude.{ℕ, zero, suc, ◌+◌, ◌-◌, ◌≤◌, ◌<◌, min, max, ◌≡◌, Bool, true, false, not, ◌&&◌, List, [], ◌∷◌, ◌++◌, map, eqb, length}
use Rattle.std.proofs.Math.Path.{refl}
use Rattle.std.proofs.Common.{sym, ap, ◌∙◌, subst, ⊎_elim, add-one, arith, eq-eqb, ne_eqb, eqb-true}
use Rattle.std.proofs.Math.Bool.{and-true, and-false}
use Rattle.std.proofs.lemmas.List.{length-map}
use Rattle.std.proofs.lemmas.Bool.{eqb-false}
use Rattle.lists.specs.Words.{all, lowest}
use Rattle.lists.specs.WordsLaws.{join, all_of_map, all_snoc, none_left, place_not, lowest_snoc}
use Rattle.lists.specs.Tab.{lt_or_le}
use Rattle.lists.specs.Lines.{line_at, lines_of}
use Rattle.lists.specs.Rows.{rows_of}
use Rattle.lists.specs.RowsLaws.{length-rows, row-at, rows_snoc, map_snoc}
use Rattle.rules.specs.Tables.{Request, of, name, same, lacks}
use Rattle.table.specs.Columns.{GUEST, ID, waiting_wide, waiting_at}
use Rattle.table.specs.View.{request_form, waiting_of, name_is}
use Rattle.walks.specs.Survey.{idle_in, tag_of, highest}

-- THE GUEST'S OWN ROWS

-- row k of the waiting table
abbrev row_at : List ℕ → ℕ → Request
row_at ws k = request_form.read (line_at waiting_wide ws k)

-- a test of every waiting request, one row more
all-next : (f : Request → Bool) (ws : List ℕ) (k : ℕ) → all f (waiting_of ws (k + 1)) ≡ all f (waiting_of ws k) && f (row_at ws k)
all-next f ws k = rw (add-one k) (ap (all f) (rows_snoc request_form ws k) ∙ all_snoc f (waiting_of ws k) (row_at ws k))

module _ (ws : List ℕ) (g : ℕ) where
  -- before the first row
  pub idle-none : idle_in ws 0 g ≡ true
  unfolding rows_of lines_of
  idle-none = refl

  -- one row more
  idle-next : (k : ℕ) → idle_in ws (k + 1) g ≡ idle_in ws k g && not (of g (row_at ws k))
  idle-next k =
      none_left (of g) (waiting_of ws (k + 1)) ∙ all-next (λ q. not (of g q)) ws k
      ∙ ap (λ (b : Bool). b && not (of g (row_at ws k))) (sym (none_left (of g) (waiting_of ws k)))

  -- a row of another guest
  pub idle-same : (k : ℕ) → (waiting_at ws k GUEST ≡ g → ⊥) → idle_in ws (k + 1) g ≡ idle_in ws k g
  idle-same k h = idle-next k ∙ ap (λ (b : Bool). idle_in ws k g && not b) (ne_eqb _ _ h) ∙ and-true (idle_in ws k g)

  -- a row of the guest
  pub idle_not : (k : ℕ) → waiting_at ws k GUEST ≡ g → idle_in ws (k + 1) g ≡ false
  idle_not k h = idle-next k ∙ ap (λ (b : Bool). idle_in ws k g && not b) (eq-eqb _ _ h) ∙ and-false (idle_in ws k g)

-- no request of this guest and this id stands in the first n rows
abbrev pub lacks_in : List ℕ → (n g id : ℕ) → Bool
lacks_in ws n g id = lacks (name_is g id) (map name (waiting_of ws n))

module _ (ws : List ℕ) (g id : ℕ) where
  -- the test that the walk makes of a request
  abbrev another : Request → Bool
  another q = not (eqb g q.guest && eqb id q.id)

  -- no row has the name where every row passes the test
  lacks-all : (n : ℕ) → lacks_in ws n g id ≡ all another (waiting_of ws n)
  lacks-all n = all_of_map (λ f. not (same (name_is g id) f)) name (waiting_of ws n)

  -- before the first row
  lacks-none : lacks_in ws 0 g id ≡ true
  unfolding rows_of lines_of
  lacks-none = refl

  -- one row more
  lacks-next : (k : ℕ) → lacks_in ws k g id ≡ true → another (row_at ws k) ≡ true → lacks_in ws (k + 1) g id ≡ true
  lacks-next k e h = lacks-all (k + 1) ∙ all-next another ws k ∙ join (sym (lacks-all k) ∙ e) h

  -- a row of another guest
  lacks-guest : (k : ℕ) → lacks_in ws k g id ≡ true → (waiting_at ws k GUEST ≡ g → ⊥) → lacks_in ws (k + 1) g id ≡ true
  lacks-guest k e h = lacks-next k e (rw (ne_eqb g (waiting_at ws k GUEST) (λ q. h (sym q))))

  -- a row with another id
  lacks_id : (k : ℕ) → lacks_in ws k g id ≡ true → (waiting_at ws k ID ≡ id → ⊥) → lacks_in ws (k + 1) g id ≡ true
  lacks_id k e h = lacks-next k e (rw (ne_eqb id (waiting_at ws k ID) (λ q. h (sym q)), and-false (eqb g (waiting_at ws k GUEST))))

  -- the row is there
  pub lacks_not : (n k : ℕ) → k < n → waiting_at ws k GUEST ≡ g → waiting_at ws k ID ≡ id → lacks_in ws n g id ≡ false
  lacks_not n k h e i =
      lacks-all n
      ∙ place_not another (waiting_of ws n) (request_form.read []) k (omega (arith, length-rows request_form ws n))
      (ap another (row-at request_form ws n k h) ∙ rw (eq-eqb g (waiting_at ws k GUEST) (sym e), eq-eqb id (waiting_at ws k ID) (sym i)))

-- whether one of the rows from `row` on is of guest g
abbrev pub Behind : List ℕ → (count g row : ℕ) → Bool → Type 0
Behind ws count g row true = (k : ℕ) × (row ≤ k) × (k < count) × (waiting_at ws k GUEST ≡ g)
Behind ws count g row false = (k : ℕ) → row ≤ k → k < count → waiting_at ws k GUEST ≡ g → ⊥

-- the walk over the rows from the last to the first has passed those from `row` on: none of them is this request, and whether one is of its guest
pub record Searched (ws : List ℕ) (count g id : ℕ) (waits : Bool) (row : ℕ) : Type 0 where
  pub lacking : (k : ℕ) → row ≤ k → k < count → waiting_at ws k GUEST ≡ g → waiting_at ws k ID ≡ id → ⊥
  pub idling : Behind ws count g row waits

module _ (ws : List ℕ) (count g id : ℕ) where
  -- behind the last row
  pub search_start : Searched ws count g id false count
  search_start = record { lacking = λ k l m e i. omega (arith, l, m); idling = λ k l m e. omega (arith, l, m) }

  module _ {waits : Bool} {row : ℕ} (s : Searched ws count g id waits row) (more : 0 < row) (inside : row ≤ count) where
    -- a row from the next one on is it, or one passed before
    split : {A : Type 0} (k : ℕ) → row - 1 ≤ k → (row - 1 ≡ k → A) → (row ≤ k → A) → A
    split k l f h = ⊎_elim (λ (m : k < row). f (omega (arith, m, l, more))) (λ (m : row ≤ k). h m) (lt_or_le k row)

    -- the row is this request
    pub search_hit : waiting_at ws (row - 1) GUEST ≡ g → waiting_at ws (row - 1) ID ≡ id → lacks_in ws count g id ≡ false
    search_hit e i = lacks_not ws g id count (row - 1) (omega (arith, more, inside)) e i

    -- another request of the guest
    pub search_own : waiting_at ws (row - 1) GUEST ≡ g → (waiting_at ws (row - 1) ID ≡ id → ⊥) → Searched ws count g id true (row - 1)
    search_own e i =
        record {
          lacking = λ k l m f q. split k l (λ n. i (ap (λ (x : ℕ). waiting_at ws x ID) n ∙ q)) (λ n. s.lacking k n m f q);
          idling = (row - 1, omega arith, omega (arith, more, inside), e);
        }

    -- another guest's
    pub search_other : (waiting_at ws (row - 1) GUEST ≡ g → ⊥) → Searched ws count g id waits (row - 1)
    search_other d =
        record {
          lacking = λ k l m f q. split k l (λ n. here k n f) (λ n. s.lacking k n m f q);
          idling = still waits s.idling;
        }
      where
        here : (k : ℕ) → row - 1 ≡ k → waiting_at ws k GUEST ≡ g → ⊥
        here k n f = d (ap (λ (x : ℕ). waiting_at ws x GUEST) n ∙ f)

        still : (b : Bool) → Behind ws count g row b → Behind ws count g (row - 1) b
        still true (k, l, m, e) = (k, omega (arith, l), m, e)
        still false none = λ k l m f. split k l (λ n. here k n f) (λ n. none k n m f)

  -- where no row is this request, the rows lack it
  pub none-lacks : (n : ℕ) → ((k : ℕ) → k < n → waiting_at ws k GUEST ≡ g → waiting_at ws k ID ≡ id → ⊥) → lacks_in ws n g id ≡ true
  none-lacks zero h = lacks-none ws g id
  none-lacks (suc n) h = subst (λ (m : ℕ). lacks_in ws m g id ≡ true) (add-one n) (go (none-lacks n (λ k l. h k (omega (arith, l)))) (eqb (waiting_at ws n GUEST) g) refl)
    where
      go : lacks_in ws n g id ≡ true → (b : Bool) → eqb (waiting_at ws n GUEST) g ≡ b → lacks_in ws (n + 1) g id ≡ true
      go so true e = lacks_id ws g id n so (h n (omega arith) (eqb-true (waiting_at ws n GUEST) g e))
      go so false e = lacks-guest ws g id n so (eqb-false (waiting_at ws n GUEST) g e)

  -- and whether one is of the guest says whether it is idle
  pub idle_by : (n : ℕ) (b : Bool) → Behind ws n g 0 b → idle_in ws n g ≡ not b
  idle_by zero true (k, l, m, e) = absurd (omega (arith, m))
  idle_by zero false none = idle-none ws g
  idle_by (suc n) b p = subst (λ (m : ℕ). idle_in ws m g ≡ not b) (add-one n) (go b p (idle_by n) (eqb (waiting_at ws n GUEST) g) refl)
    where
      go : (b : Bool) → Behind ws (suc n) g 0 b → ((c : Bool) → Behind ws n g 0 c → idle_in ws n g ≡ not c) → (d : Bool) → eqb (waiting_at ws n GUEST) g ≡ d → idle_in ws (n + 1) g ≡ not b
      go true p so true e = idle_not ws g n (eqb-true (waiting_at ws n GUEST) g e)
      go true (k, l, m, f) so false e =
          let other = eqb-false (waiting_at ws n GUEST) g e in
          idle-same ws g n other ∙ so true (k, l, ⊎_elim (λ (x : k < n). x) (λ (x : n ≤ k). absurd (other (ap (λ (y : ℕ). waiting_at ws y GUEST) (omega (arith, x, m)) ∙ f))) (lt_or_le k n), f)
      go false none so true e = absurd (none n (omega arith) (omega arith) (eqb-true (waiting_at ws n GUEST) g e))
      go false none so false e = idle-same ws g n (eqb-false (waiting_at ws n GUEST) g e) ∙ so false (λ k l m f. none k l (omega (arith, m)) f)

  -- at the first row
  pub search_end : {waits : Bool} {row : ℕ} → Searched ws count g id waits row → row ≤ 0 → (lacks_in ws count g id ≡ true) × (idle_in ws count g ≡ not waits)
  search_end {waits} {row} s done =
      let q : row ≡ 0 = omega (arith, done) in
      (none-lacks count (λ k m. s.lacking k (omega (arith, q)) m), idle_by count waits (rw q at s.idling))

-- THE ENDS

-- the largest of a list with one number more
highest_snoc : (l : List ℕ) (x : ℕ) → highest (l ++ (x ∷ [])) ≡ max (highest l) x
unfolding highest
highest_snoc [] x = omega arith
highest_snoc (y ∷ l) x = omega (arith, highest_snoc l x)

-- the share tags of the first n rows
abbrev pub tags : List ℕ → ℕ → List ℕ
tags ws n = map Request.stag (waiting_of ws n)

module _ (ws : List ℕ) where
  -- there is one for each row
  length-tags : (n : ℕ) → length (tags ws n) ≡ n
  length-tags n = length-map (waiting_of ws n) Request.stag ∙ length-rows request_form ws n

  -- those of one row more
  tags_snoc : (n : ℕ) → tags ws (suc n) ≡ tags ws n ++ (tag_of ws n ∷ [])
  tags_snoc n = ap (map Request.stag) (rows_snoc request_form ws n) ∙ map_snoc Request.stag (waiting_of ws n) (row_at ws n)

  -- before the first row the ends are 0
  pub ends-none : (0 ≡ lowest (tags ws 0)) × (0 ≡ highest (tags ws 0))
  unfolding rows_of lines_of lowest highest
  ends-none = (refl, refl)

  -- of one row both ends are its tag
  pub ends-first : (tag_of ws 0 ≡ lowest (tags ws 1)) × (tag_of ws 0 ≡ highest (tags ws 1))
  unfolding rows_of lines_of lowest highest
  ends-first = (refl, omega arith)

  -- the smallest of one row more
  low_suc : (n : ℕ) → 0 < n → lowest (tags ws (suc n)) ≡ min (lowest (tags ws n)) (tag_of ws n)
  low_suc n h = ap lowest (tags_snoc n) ∙ lowest_snoc (tags ws n) (tag_of ws n) (omega (arith, length-tags n))

  -- the largest of one row more
  high_suc : (n : ℕ) → highest (tags ws (suc n)) ≡ max (highest (tags ws n)) (tag_of ws n)
  high_suc n = ap highest (tags_snoc n) ∙ highest_snoc (tags ws n) (tag_of ws n)

  -- the smallest so far, with the tag of the next row
  pub low-next : (n m : ℕ) → 0 < n → m ≡ lowest (tags ws n) → min m (tag_of ws n) ≡ lowest (tags ws (n + 1))
  low-next n m h e = rw (add-one n, e) (sym (low_suc n h))

  -- the largest so far, with the tag of the next row
  pub high-next : (n m : ℕ) → m ≡ highest (tags ws n) → max m (tag_of ws n) ≡ highest (tags ws (n + 1))
  high-next n m e = rw (add-one n, e) (sym (high_suc n))

  -- rows that are not below the smallest do not change it
  low_skip : (n d m : ℕ) → 0 < n → m ≡ lowest (tags ws n) → ((k : ℕ) → n ≤ k → k < n + d → m ≤ tag_of ws k) → m ≡ lowest (tags ws (n + d))
  low_skip n zero m s e h = let q : n ≡ n + 0 = omega arith in e ∙ ap (λ i. lowest (tags ws i)) q
  low_skip n (suc d) m s e h =
      let inner : m ≡ lowest (tags ws (n + d)) = low_skip n d m s e (λ k l g. h k l (omega arith)) in
      let q : suc (n + d) ≡ n + suc d = omega arith in
      let here : m ≤ tag_of ws (n + d) = h (n + d) (omega arith) (omega arith) in
      let next : m ≡ lowest (tags ws (suc (n + d))) = omega (arith, low_suc (n + d) (omega arith)) in
      next ∙ ap (λ i. lowest (tags ws i)) q

  -- rows that are not above the largest do not change it
  high_skip : (n d m : ℕ) → m ≡ highest (tags ws n) → ((k : ℕ) → n ≤ k → k < n + d → tag_of ws k ≤ m) → m ≡ highest (tags ws (n + d))
  high_skip n zero m e h = let q : n ≡ n + 0 = omega arith in e ∙ ap (λ i. highest (tags ws i)) q
  high_skip n (suc d) m e h =
      let inner : m ≡ highest (tags ws (n + d)) = high_skip n d m e (λ k l g. h k l (omega arith)) in
      let q : suc (n + d) ≡ n + suc d = omega arith in
      let here : tag_of ws (n + d) ≤ m = h (n + d) (omega arith) (omega arith) in
      let next : m ≡ highest (tags ws (suc (n + d))) = omega (arith, high_suc (n + d)) in
      next ∙ ap (λ i. highest (tags ws i)) q

  -- so the ends at place n are those at place r, where no row between lies outside them
  pub ends_skip : (n r least most : ℕ) → 0 < n → n ≤ r → (least ≡ lowest (tags ws n)) × (most ≡ highest (tags ws n))
      → ((k : ℕ) → n ≤ k → k < r → (least ≤ tag_of ws k) × (tag_of ws k ≤ most)) → (least ≡ lowest (tags ws r)) × (most ≡ highest (tags ws r))
  ends_skip n r least most s h e inside =
      let q : n + (r - n) ≡ r = omega arith in (
        low_skip n (r - n) least s e.0 (λ k l g. (inside k l (omega arith)).0) ∙ ap (λ i. lowest (tags ws i)) q,
        high_skip n (r - n) most e.1 (λ k l g. (inside k l (omega arith)).1) ∙ ap (λ i. highest (tags ws i)) q,
      )

  -- what holds of a run of rows, one row more
  pub inside-next : (from i least most : ℕ) → ((k : ℕ) → from ≤ k → k < i → (least ≤ tag_of ws k) × (tag_of ws k ≤ most)) → least ≤ tag_of ws i → tag_of ws i ≤ most
      → (k : ℕ) → from ≤ k → k < i + 1 → (least ≤ tag_of ws k) × (tag_of ws k ≤ most)
  inside-next from i least most h low high k l b =
      ⊎_elim (λ g. h k l g) (λ g. let e : k ≡ i = omega arith in rw e (low, high)) (lt_or_le k i)
