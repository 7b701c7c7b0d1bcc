-- An index where a row was placed last: its guest's last row, or its guest's first, says the new one. Assumes nothing.
use Prim.Native.Nat.{ℕ, ◌+◌, ◌-◌, ◌≤◌, ◌<◌}
use mathlib.Core.Path.{◌≡◌, sym, ap, ◌∙◌, subst}
use mathlib.Core.List.{List}
use mathlib.Core.Logic.{◌⊎◌, inl, inr, ⊎_elim}
use native.Mathlib.Omega.{arith}
use lib.ListN.{length, get_or, set, length-set}
use lib.Seq.{get_or-set_other, get_or-set_same}
use Rattle.lists.specs.Tab.{lt_or_le}
use Rattle.table.specs.Columns.{most_guests, most_capacity}
use Rattle.index.specs.Index.{LASTS, NEXTS, first_at, last_at, next_at, index_wide, owner_of, NoRow, Head, Tail, Leads, Trails, Indexed, Gains}
use Rattle.index.proofs.Passes.{eq_or_not}
use Rattle.index.proofs.Laws.{indexed_alike, leads-row, trails_fits}

-- ONE ROW MORE

module _ (ws : List ℕ) (n : ℕ) where
  -- which is not the guest's
  no_row_past : (g from : ℕ) → NoRow ws g from n → (owner_of ws n ≡ g → ⊥) → NoRow ws g from (n + 1)
  no_row_past g from r other j low high own =
      ⊎_elim
      (λ (l : j < n). r j low l own)
      (λ (m : n ≤ j). let q : j ≡ n = omega arith in other (rw q at own))
      (lt_or_le j n)

  leads_past : {g from x : ℕ} → Leads ws g from n x → (owner_of ws n ≡ g → ⊥) → Leads ws g from (n + 1) x
  leads_past {g} {from} l other = record { none = λ e. no_row_past g from (l.none e) other; some = λ k e. let h = l.some k e in (omega (arith, h.0), h.1) }

  trails_past : {g x : ℕ} → Trails ws g n x → (owner_of ws n ≡ g → ⊥) → Trails ws g (n + 1) x
  trails_past {g} l other =
      record {
        none = λ e. no_row_past g 0 (l.none e) other;
        some = λ k e. let h = l.some k e in record { inside = omega (arith, h.inside); own = h.own; behind = no_row_past g (k + 1) h.behind other };
      }

  -- the guest had one before
  leads-more : {g from x : ℕ} → Leads ws g from n x → 0 < x → Leads ws g from (n + 1) x
  leads-more l some = record { none = λ e. absurd (omega (arith, e, some)); some = λ k e. let h = l.some k e in (omega (arith, h.0), h.1) }

  -- it is the guest's first
  leads-new : (g from : ℕ) → from ≤ n → NoRow ws g from n → owner_of ws n ≡ g → Leads ws g from (n + 1) (n + 1)
  leads-new g from low r own =
      record {
        none = λ e. absurd (omega (arith, e));
        some = λ k e. (omega (arith, e), subst (λ (i : ℕ). Head ws g from i) (omega (arith, e)) (record { low = low; own = own; before = r }));
      }

  -- it is the guest's last
  trails_new : (g : ℕ) → owner_of ws n ≡ g → Trails ws g (n + 1) (n + 1)
  trails_new g own =
      record {
        none = λ e. absurd (omega (arith, e));
        some = λ k e. subst (λ (i : ℕ). Tail ws g (n + 1) i) (omega (arith, e)) (record { inside = omega arith; own = own; behind = λ j low high. absurd (omega (arith, low, high)) });
      }

  -- nothing is next to it
  leads-end : (g : ℕ) → Leads ws g (n + 1) (n + 1) 0
  leads-end g = record { none = λ e j low high. absurd (omega (arith, low, high)); some = λ k e. absurd (omega (arith, e)) }

-- THE NUMBERS, where the new row's is written at the spot, and as its guest's last

-- the index then
abbrev pub linked : List ℕ → (n g spot : ℕ) → List ℕ
linked ix n g spot = set (set (set ix spot (n + 1)) (LASTS + g) (n + 1)) (NEXTS + n) 0

module _ (ws ix : List ℕ) (n g spot : ℕ) (i : Indexed ws ix n) (room : n < most_capacity) (fits : g < most_guests) where
  -- the new number stands at the spot, where no other is written
  at_spot : spot < NEXTS + n → (spot ≡ LASTS + g → ⊥) → get_or (linked ix n g spot) spot 0 ≡ n + 1
  at_spot low apart =
      get_or-set_other (set (set ix spot (n + 1)) (LASTS + g) (n + 1)) (NEXTS + n) spot 0 0 (λ q. omega (arith, q, low))
      ∙ get_or-set_other (set ix spot (n + 1)) (LASTS + g) spot (n + 1) 0 apart
      ∙ get_or-set_same ix spot (n + 1) 0 (omega (arith, low, i.long, room))

  at_last : last_at (linked ix n g spot) g ≡ n + 1
  at_last =
      get_or-set_other (set (set ix spot (n + 1)) (LASTS + g) (n + 1)) (NEXTS + n) (LASTS + g) 0 0 (λ q. omega (arith, q, fits))
      ∙ get_or-set_same (set ix spot (n + 1)) (LASTS + g) (n + 1) 0 (rw length-set (omega (arith, i.long, fits)))

  at_next : next_at (linked ix n g spot) n ≡ 0
  at_next = get_or-set_same (set (set ix spot (n + 1)) (LASTS + g) (n + 1)) (NEXTS + n) 0 0 (rw (length-set, length-set) (omega (arith, i.long, room)))

  at_other : (j : ℕ) → (j ≡ spot → ⊥) → (j ≡ LASTS + g → ⊥) → (j ≡ NEXTS + n → ⊥) → get_or (linked ix n g spot) j 0 ≡ get_or ix j 0
  at_other j a b c =
      get_or-set_other (set (set ix spot (n + 1)) (LASTS + g) (n + 1)) (NEXTS + n) j 0 0 c
      ∙ get_or-set_other (set ix spot (n + 1)) (LASTS + g) j (n + 1) 0 b
      ∙ get_or-set_other ix spot j (n + 1) 0 a

  module _ (own : owner_of ws n ≡ g) where
    -- another guest's rows are the same
    other : (h : ℕ) → (h ≡ g → ⊥) → owner_of ws n ≡ h → ⊥
    other h apart q = apart (sym q ∙ own)

    -- the last rows of the guests
    lasts : (spot ≡ g) ⊎ (NEXTS ≤ spot) → (h : ℕ) → h < most_guests → Trails ws h (n + 1) (last_at (linked ix n g spot) h)
    lasts where-is h known =
        ⊎_elim
        (λ (q : h ≡ g). rw (q, at_last) (trails_new ws n g own))
        (λ (q : h ≡ g → ⊥).
        let e : last_at (linked ix n g spot) h ≡ last_at ix h = at_other (LASTS + h) (⊎_elim (λ (a : spot ≡ g). λ z. omega (arith, z, a, fits)) (λ (a : NEXTS ≤ spot). λ z. omega (arith, z, a, known)) where-is) (λ z. q (omega (arith, z))) (λ z. omega (arith, z, known)) in
        rw e (trails_past ws n (i.last h known) (other h q)))
        (eq_or_not h g)

    -- the index, from its first rows and its next ones
    indexed_by : (spot ≡ g) ⊎ (NEXTS ≤ spot) → ((h : ℕ) → h < most_guests → Leads ws h 0 (n + 1) (first_at (linked ix n g spot) h))
        → ((k : ℕ) → k < n → Leads ws (owner_of ws k) (k + 1) (n + 1) (next_at (linked ix n g spot) k)) → Indexed ws (linked ix n g spot) (n + 1)
    indexed_by where-is firsts nexts =
        record {
          long = simp length-set i.long;
          few = omega (arith, room);
          owned = λ k h. ⊎_elim (λ (l : k < n). i.owned k l) (λ (m : n ≤ k). let q : k ≡ n = omega arith in rw (q, own) fits) (lt_or_le k n);
          first = firsts;
          last = lasts where-is;
          next = λ k h.
              ⊎_elim
              (λ (l : k < n). nexts k l)
              (λ (m : n ≤ k). let q : k ≡ n = omega arith in rw (q, at_next) (leads-end ws n (owner_of ws n)))
              (lt_or_le k n);
        }

    -- the guest had no row: the new one is its first too
    linked-first : last_at ix g ≡ 0 → spot ≡ g → Indexed ws (linked ix n g spot) (n + 1)
    linked-first none is = indexed_by (inl is) firsts nexts
      where
        firsts : (h : ℕ) → h < most_guests → Leads ws h 0 (n + 1) (first_at (linked ix n g spot) h)
        firsts h known =
            ⊎_elim
            (λ (q : h ≡ g).
            let e : first_at (linked ix n g spot) h ≡ n + 1 =
            ap (λ (j : ℕ). get_or (linked ix n g spot) j 0) (q ∙ sym is) ∙ at_spot (omega (arith, is, fits)) (λ z. omega (arith, z, is, fits)) in
            rw e (rw q (leads-new ws n g 0 (omega arith) ((i.last g fits).none none) own)))
            (λ (q : h ≡ g → ⊥).
            let e : first_at (linked ix n g spot) h ≡ first_at ix h = at_other h (λ z. q (z ∙ is)) (λ z. omega (arith, z, known)) (λ z. omega (arith, z, known)) in
            rw e (leads_past ws n (i.first h known) (other h q)))
            (eq_or_not h g)

        nexts : (k : ℕ) → k < n → Leads ws (owner_of ws k) (k + 1) (n + 1) (next_at (linked ix n g spot) k)
        nexts k here =
            let e : next_at (linked ix n g spot) k ≡ next_at ix k = at_other (NEXTS + k) (λ z. omega (arith, z, is, fits)) (λ z. omega (arith, z, fits)) (λ z. omega (arith, z, here)) in
            rw e (leads_past ws n (i.next k here) (other (owner_of ws k) (λ q. (i.last g fits).none none k (omega arith) here q)))

    -- the guest had a last row: the new one is next to it
    linked-next : (m : ℕ) → last_at ix g ≡ m + 1 → spot ≡ NEXTS + m → Indexed ws (linked ix n g spot) (n + 1)
    linked-next m says is = indexed_by (inr (omega (arith, is))) firsts nexts
      where
        t : Tail ws g n m
        t = (i.last g fits).some m says

        firsts : (h : ℕ) → h < most_guests → Leads ws h 0 (n + 1) (first_at (linked ix n g spot) h)
        firsts h known =
            let e : first_at (linked ix n g spot) h ≡ first_at ix h = at_other h (λ z. omega (arith, z, is, known)) (λ z. omega (arith, z, known)) (λ z. omega (arith, z, known)) in
            rw e
            (⊎_elim
            (λ (q : h ≡ g). leads-more ws n (i.first h known) (omega (arith, (leads-row (i.first h known) m (omega arith) t.inside (t.own ∙ sym q)).says)))
            (λ (q : h ≡ g → ⊥). leads_past ws n (i.first h known) (other h q))
            (eq_or_not h g))

        -- a row that is not the guest's last
        nexts_other : (k : ℕ) → k < n → (k ≡ m → ⊥) → Leads ws (owner_of ws k) (k + 1) (n + 1) (next_at ix k)
        nexts_other k here apart =
            ⊎_elim
            (λ (q : owner_of ws k ≡ g).
            ⊎_elim
            (λ (l : k < m). leads-more ws n (i.next k here) (omega (arith, (leads-row (i.next k here) m (omega (arith, l)) t.inside (t.own ∙ sym q)).says)))
            (λ (l : m ≤ k). absurd (t.behind k (omega (arith, l, apart)) here q))
            (lt_or_le k m))
            (λ (q : owner_of ws k ≡ g → ⊥). leads_past ws n (i.next k here) (other (owner_of ws k) q))
            (eq_or_not (owner_of ws k) g)

        nexts : (k : ℕ) → k < n → Leads ws (owner_of ws k) (k + 1) (n + 1) (next_at (linked ix n g spot) k)
        nexts k here =
            ⊎_elim
            (λ (q : k ≡ m).
            let e : next_at (linked ix n g spot) k ≡ n + 1 = rw (q, sym is) (at_spot (omega (arith, is, t.inside)) (λ z. omega (arith, z, is, fits))) in
            rw e (rw (q, t.own) (leads-new ws n g (m + 1) (omega (arith, t.inside)) t.behind own)))
            (λ (q : k ≡ m → ⊥).
            let e : next_at (linked ix n g spot) k ≡ next_at ix k = at_other (NEXTS + k) (λ z. q (omega (arith, z, is))) (λ z. omega (arith, z, fits)) (λ z. omega (arith, z, here)) in
            rw e (nexts_other k here q))
            (eq_or_not k m)

-- THE SPOT: as the next of the guest's last row, or as the guest's first

module _ (ws ix : List ℕ) (n g spot : ℕ) (i : Indexed ws ix n) (fits : g < most_guests) (none : last_at ix g ≡ 0 → spot ≡ g) (some : 0 < last_at ix g → spot + 1 ≡ NEXTS + last_at ix g) where
  -- it is one of the index
  pub spot_fits : spot < NEXTS + n
  spot_fits =
      ⊎_elim
      (λ (l : 0 < last_at ix g). omega (arith, some l, trails_fits (i.last g fits)))
      (λ (l : last_at ix g ≤ 0). omega (arith, none (omega arith), fits))
      (lt_or_le 0 (last_at ix g))

  -- the index of the rows with the new one
  pub linked_is : (ws' : List ℕ) → n < most_capacity → Gains ws ws' n g → Indexed ws' (linked ix n g spot) (n + 1)
  linked_is ws' room new =
      let i' : Indexed ws' ix n = indexed_alike ws ws' n new.same i in
      ⊎_elim
      (λ (l : 0 < last_at ix g). linked-next ws' ix n g spot i' room fits new.own (last_at ix g - 1) (omega arith) (omega (arith, some l)))
      (λ (l : last_at ix g ≤ 0). linked-first ws' ix n g spot i' room fits new.own (omega arith) (none (omega arith)))
      (lt_or_le 0 (last_at ix g))

-- NO ROW

-- the index of no row
pub indexed_none : (ws ix : List ℕ) → length ix ≡ index_wide → ((j : ℕ) → j < NEXTS → get_or ix j 0 ≡ 0) → Indexed ws ix 0
indexed_none ws ix long zero =
    record {
      long = long;
      few = omega arith;
      owned = λ k h. absurd (omega (arith, h));
      first = λ g h. record { none = λ e j low high. absurd (omega (arith, high)); some = λ k e. absurd (omega (arith, e, zero g (omega (arith, h)))) };
      last = λ g h. record { none = λ e j low high. absurd (omega (arith, high)); some = λ k e. absurd (omega (arith, e, zero (LASTS + g) (omega (arith, h)))) };
      next = λ k h. absurd (omega (arith, h));
    }
