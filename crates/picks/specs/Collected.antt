-- The first rows of the guests, collected: where they begin, in their order. Every other row stands behind an earlier one of its guest.
-- Assumes nothing.
use Rattle.std.specs.Prelude.{ℕ, zero, suc, ◌+◌, ◌-◌, ◌*◌, ◌/◌, ◌≤◌, ◌<◌, ◌≡◌, refl, Bool, true, false, List, eqb, ltb, length, get_or, set, take}
use Rattle.std.proofs.Common.{sym, ap, ◌∙◌, subst, arith, add-one, get_or-set_other, get_or-set_same, eqb-true, ltb-true, ltb-false}
use Rattle.std.proofs.lemmas.Bool.{eqb-false}
use Rattle.std.proofs.lemmas.List.{length-take-le, get_or-take}
use Rattle.table.specs.Columns.{GUEST, waiting_wide, waiting_at}
use Rattle.walks.specs.Walks.{Owned}
use Rattle.walks.specs.Marks.{Stood, stood-later}
use Rattle.looks.specs.InLine.{Behind}
use Rattle.walks.specs.Unseen.{bit_of, Marked, none-set, unseen, unseen_most, unseen-some, unseen-mark, unseen-again}

-- the row behind the last of the first k that are collected
abbrev pub next : List ℕ → ℕ → ℕ
next rows zero = 0
next rows (suc k) = get_or rows k 0 / waiting_wide + 1

-- one more
pub next_on : (rows : List ℕ) (k : ℕ) → next rows (k + 1) ≡ get_or rows k 0 / waiting_wide + 1
next_on rows k = ap (next rows) (add-one k)

-- the k-th that is collected, one of the first e rows: those between it and the one before stand behind others
pub record Collects (ws rows : List ℕ) (e k : ℕ) : Type 0 where
  pub row : ℕ
  pub begins : get_or rows k 0 ≡ row * waiting_wide
  pub inside : row < e
  pub between : Behind ws (next rows k) row

-- n are collected of the first e rows
pub record Collected (ws rows : List ℕ) (n e : ℕ) : Type 0 where
  pub each : (k : ℕ) → k < n → Collects ws rows e k
  pub rest : Behind ws (next rows n) e

module _ (ws : List ℕ) where
  -- no row
  behind-none : (i e : ℕ) → i ≡ e → Behind ws i e
  behind-none i e q = record { ahead = omega (arith, q); each = λ j h l. absurd (omega (arith, q, h, l)) }

  -- one more
  behind_more : {i e : ℕ} → Behind ws i e → Stood ws e (waiting_at ws e GUEST) → Behind ws i (e + 1)
  behind_more {i} {e} b s = record { ahead = omega (arith, b.ahead); each = λ j h l. go j h l (eqb j e) refl }
    where
      go : (j : ℕ) → i ≤ j → j < e + 1 → (c : Bool) → eqb j e ≡ c → Stood ws j (waiting_at ws j GUEST)
      go j h l true q = subst (λ (x : ℕ). Stood ws x (waiting_at ws x GUEST)) (sym (eqb-true j e q)) s
      go j h l false q = b.each j h (omega (arith, l, eqb-false j e q))

  -- what is collected of the first e rows is so of more
  pub collects_more : {rows : List ℕ} {e k : ℕ} (e' : ℕ) → e ≤ e' → Collects ws rows e k → Collects ws rows e' k
  collects_more e' h c = record { row = c.row; begins = c.begins; inside = omega (arith, h, c.inside); between = c.between }

  -- nothing at first
  pub collected_none : (rows : List ℕ) → Collected ws rows 0 0
  collected_none rows = record { each = λ k h. absurd (omega (arith, h)); rest = behind-none 0 0 refl }

  -- a place behind what is collected is written
  pub collected_write : {rows : List ℕ} {n e : ℕ} (x : ℕ) → Collected ws rows n e → Collected ws (set rows n x) n e
  collected_write {rows} {n} {e} x c =
      record {
        each = λ k h. let o = c.each k h in
            record {
              row = o.row;
              begins = kept k h ∙ o.begins;
              inside = o.inside;
              between = subst (λ (i : ℕ). Behind ws i o.row) (sym (same k (omega (arith, h)))) o.between;
            };
        rest = subst (λ (i : ℕ). Behind ws i e) (sym (same n (omega arith))) c.rest;
      }
    where
      kept : (k : ℕ) → k < n → get_or (set rows n x) k 0 ≡ get_or rows k 0
      kept k h = get_or-set_other rows n k x 0 (λ (q : k ≡ n). omega (arith, h, q))

      same : (k : ℕ) → k ≤ n → next (set rows n x) k ≡ next rows k
      same zero h = refl
      same (suc k) h = ap (λ (i : ℕ). i / waiting_wide + 1) (kept k (omega (arith, h)))

  -- the front of the list has what is collected
  pub collected_taken : {rows : List ℕ} {n e : ℕ} → n ≤ length rows → Collected ws rows n e → Collected ws (take n rows) (length (take n rows)) e
  collected_taken {rows} {n} {e} long c =
      subst (λ (m : ℕ). Collected ws (take n rows) m e) (sym (length-take-le n rows long))
      (record {
        each = λ k h. let o = c.each k h in
            record { row = o.row; begins = get_or-take n rows k 0 h ∙ o.begins; inside = o.inside; between = subst (λ (i : ℕ). Behind ws i o.row) (sym (same k (omega (arith, h)))) o.between };
        rest = subst (λ (i : ℕ). Behind ws i e) (sym (same n (omega arith))) c.rest;
      })
    where
      same : (k : ℕ) → k ≤ n → next (take n rows) k ≡ next rows k
      same zero h = refl
      same (suc k) h = ap (λ (x : ℕ). x / waiting_wide + 1) (get_or-take n rows k 0 (omega (arith, h)))

  -- the row behind is collected
  pub collected_take : {rows : List ℕ} {n e : ℕ} → Collected ws rows n e → get_or rows n 0 ≡ e * waiting_wide → Collected ws rows (n + 1) (e + 1)
  collected_take {rows} {n} {e} c q = record { each = λ k h. go k h (eqb k n) refl; rest = behind-none (next rows (n + 1)) (e + 1) (omega (arith, q, next_on rows n)) }
    where
      go : (k : ℕ) → k < n + 1 → (b : Bool) → eqb k n ≡ b → Collects ws rows (e + 1) k
      go k h true f = subst (Collects ws rows (e + 1)) (sym (eqb-true k n f)) (record { row = e; begins = q; inside = omega arith; between = c.rest })
      go k h false f = collects_more (e + 1) (omega arith) (c.each k (omega (arith, h, eqb-false k n f)))

  -- or it stands behind another
  pub collected_pass : {rows : List ℕ} {n e : ℕ} → Collected ws rows n e → Stood ws e (waiting_at ws e GUEST) → Collected ws rows n (e + 1)
  collected_pass {rows} {n} {e} c s = record { each = λ k h. collects_more (e + 1) (omega arith) (c.each k h); rest = behind_more c.rest s }

-- the walk that collects, with `row` rows passed: each guest whose bit is set has one of these, and n are collected of them
pub record Collecting (ws : List ℕ) (known : ℕ) (rows : List ℕ) (seen n row : ℕ) : Type 0 where
  pub stood : (g : ℕ) → bit_of seen g ≡ 1 → Stood ws row g
  pub sofar : Collected ws rows n row
  pub left : unseen (bit_of seen) known + n ≤ known

module _ (ws : List ℕ) (known count : ℕ) where
  module _ {rows : List ℕ} {seen n row : ℕ} (l : Collecting ws known rows seen n row) (here : row < count) where
    -- the guest of the next row
    abbrev guest : ℕ
    guest = waiting_at ws row GUEST

    -- the row is written down, and kept where its guest has no bit; the guest gets its bit
    pub collecting_next : Owned ws count known → n < length rows → {seen' : ℕ} → Marked (bit_of seen) guest (bit_of seen')
        → Collecting ws known (set rows n (row * waiting_wide)) seen' (n + (1 - bit_of seen guest)) (row + 1)
    collecting_next owned room {seen'} m = go (eqb (bit_of seen guest) 0) refl
      where
        written : Collected ws (set rows n (row * waiting_wide)) n row
        written = collected_write ws (row * waiting_wide) l.sofar

        stands : (g : ℕ) → bit_of seen' g ≡ 1 → (b : Bool) → eqb g guest ≡ b → Stood ws (row + 1) g
        stands g h true e = record { place = row; before = omega arith; own = sym (eqb-true g guest e) }
        stands g h false e = stood-later (l.stood g (sym (m.others g (eqb-false g guest e)) ∙ h)) (omega arith)

        step : {n' : ℕ} → Collected ws (set rows n (row * waiting_wide)) n' (row + 1) → unseen (bit_of seen') known + n' ≤ known → Collecting ws known (set rows n (row * waiting_wide)) seen' n' (row + 1)
        step c h = record { stood = λ g e. stands g e (eqb g guest) refl; sofar = c; left = h }

        go : (b : Bool) → eqb (bit_of seen guest) 0 ≡ b → Collecting ws known (set rows n (row * waiting_wide)) seen' (n + (1 - bit_of seen guest)) (row + 1)
        go true e =
            let none = eqb-true (bit_of seen guest) 0 e in
            let one : n + (1 - bit_of seen guest) ≡ n + 1 = omega (arith, none) in
            rw one (step (collected_take ws written (get_or-set_same rows n (row * waiting_wide) 0 room)) (omega (arith, l.left, unseen-mark (bit_of seen) (bit_of seen') known guest m (owned row here) none)))
        go false e =
            let set1 : bit_of seen guest ≡ 1 = omega (arith, eqb-false (bit_of seen guest) 0 e) in
            let zero1 : n + (1 - bit_of seen guest) ≡ n = omega (arith, set1) in
            rw zero1 (step (collected_pass ws written (l.stood guest set1)) (omega (arith, l.left, unseen-again (bit_of seen) (bit_of seen') known guest m set1)))

  module _ {rows : List ℕ} {seen n row : ℕ} (l : Collecting ws known rows seen n row) (inside : row ≤ count) where
    -- where every guest was seen, the rows that are left stand behind others: the walk may end
    pub collecting_all : Owned ws count known → known ≤ n → Collected ws rows n count
    collecting_all owned all = record { each = λ k h. collects_more ws count inside (l.sofar.each k h); rest = record { ahead = omega (arith, l.sofar.rest.ahead, inside); each = behind } }
      where
        bits : (g : ℕ) → g < known → bit_of seen g ≡ 1
        bits g h = go (eqb (bit_of seen g) 0) refl
          where
            go : (b : Bool) → eqb (bit_of seen g) 0 ≡ b → bit_of seen g ≡ 1
            go true e = absurd (omega (arith, all, l.left, unseen-some (bit_of seen) known g h (eqb-true (bit_of seen g) 0 e)))
            go false e = omega (arith, eqb-false (bit_of seen g) 0 e)

        behind : (j : ℕ) → next rows n ≤ j → j < count → Stood ws j (waiting_at ws j GUEST)
        behind j h i = go (ltb j row) refl
          where
            go : (b : Bool) → ltb j row ≡ b → Stood ws j (waiting_at ws j GUEST)
            go true e = l.sofar.rest.each j h (ltb-true j row e)
            go false e = stood-later (l.stood (waiting_at ws j GUEST) (bits (waiting_at ws j GUEST) (owned j i))) (ltb-false j row e)

-- before the first row
pub collecting_start : (ws : List ℕ) (known : ℕ) (rows : List ℕ) → Collecting ws known rows 0 0 0
collecting_start ws known rows =
    record {
      stood = λ g e. absurd (omega (arith, e, none-set g));
      sofar = collected_none ws rows;
      left = omega (arith, unseen_most (bit_of 0) known);
    }
