-- An index where a guest's first row has gone: its next row is the first, and every place behind falls by one. Assumes nothing.
use Prim.Native.Nat.{ℕ, ◌+◌, ◌-◌, ◌≤◌, ◌<◌}
use mathlib.Core.Path.{◌≡◌, refl, sym, ap, ◌∙◌}
use mathlib.Core.List.{List}
use mathlib.Core.Logic.{◌⊎◌, inl, inr, ⊎_elim}
use native.Mathlib.Omega.{arith}
use lib.ListN.{length, get_or, set, length-set}
use lib.Seq.{get_or-set_other, get_or-set_same}
use Rattle.lists.specs.Tab.{lt_or_le}
use Rattle.table.specs.Columns.{most_guests}
use Rattle.index.specs.Index.{LASTS, NEXTS, first_at, last_at, next_at, index_wide, owner_of, NoRow, Head, Leads, Trails, Indexed, Loses, fallen, Rewritten}
use Rattle.index.proofs.Passes.{eq_or_not, fallen-behind, fallen-before}
use Rattle.index.proofs.Laws.{no_row_alike, next_of}

-- WHERE A PLACE COMES TO once the row at `place` has gone

-- one up to it stays, one behind it falls by one: a becomes b
abbrev Falls : (place a b : ℕ) → Type 0
Falls place a b = ((a ≤ place) × (b ≡ a)) ⊎ ((place < a) × (a ≡ b + 1))

module _ (place a b : ℕ) where
  stays : a ≤ place → b ≡ a → Falls place a b
  stays h e = inl (h, e)

  drops : place < a → a ≡ b + 1 → Falls place a b
  drops h e = inr (h, e)

  module _ (f : Falls place a b) (j : ℕ) where
    -- a row before it is the same row
    onto_front : j < place → b ≤ j → a ≤ j
    onto_front l m = ⊎_elim (λ h. omega (arith, h.0, h.1, l, m)) (λ h. omega (arith, h.0, h.1, l, m)) f

    under_front : j < place → j < b → j < a
    under_front l m = ⊎_elim (λ h. omega (arith, h.0, h.1, l, m)) (λ h. omega (arith, h.0, h.1, l, m)) f

    from_front : j < place → a ≤ j → b ≤ j
    from_front l m = ⊎_elim (λ h. omega (arith, h.0, h.1, l, m)) (λ h. omega (arith, h.0, h.1, l, m)) f

    -- any other was one further on
    onto_back : place ≤ j → b ≤ j → a ≤ j + 1
    onto_back l m = ⊎_elim (λ h. omega (arith, h.0, h.1, l, m)) (λ h. omega (arith, h.0, h.1, l, m)) f

    under_back : place ≤ j → j < b → j + 1 < a
    under_back l m = ⊎_elim (λ h. omega (arith, h.0, h.1, l, m)) (λ h. omega (arith, h.0, h.1, l, m)) f

    from_back : place ≤ j → a ≤ j + 1 → b ≤ j
    from_back l m = ⊎_elim (λ h. omega (arith, h.0, h.1, l, m)) (λ h. omega (arith, h.0, h.1, l, m)) f

-- THE ROWS of a guest, without the one at place

module _ (ws ws' : List ℕ) (place count n : ℕ) (one : count ≡ n + 1) (here : place < count) (out : Loses ws ws' count place) where
  no_row_falls : (g a b a' b' : ℕ) → Falls place a a' → Falls place b b' → b' ≤ n → NoRow ws g a b → NoRow ws' g a' b'
  no_row_falls g a b a' b' f f' fit r j low high own =
      ⊎_elim
      (λ (l : j < place). r j (onto_front place a a' f j l low) (under_front place b b' f' j l high) (sym (out.same j l) ∙ own))
      (λ (l : place ≤ j).
      r (j + 1) (onto_back place a a' f j l low) (under_back place b b' f' j l high) (sym (out.moved j l (omega (arith, high, fit, one))) ∙ own))
      (lt_or_le j place)

  -- all rows
  whole : Falls place count n
  whole = drops place count n here one

  -- a number that says a first row, and not the one that has gone
  leads_falls : {g from x : ℕ} (from' : ℕ) → Falls place from from' → Leads ws g from count x → (x ≡ place + 1 → ⊥) → Leads ws' g from' n (fallen (place + 1) x)
  leads_falls {g} {from} {x} from' f l apart = ⊎_elim behind before (lt_or_le (place + 1) x)
    where
      behind : place + 1 < x → Leads ws' g from' n (fallen (place + 1) x)
      behind b =
          rw (fallen-behind (place + 1) x b)
          (record {
            none = λ z. absurd (omega (arith, z, b));
            some = λ k z.
                let q : x ≡ k + 1 + 1 = omega (arith, z, b) in
                let h = l.some (k + 1) q in
                let late : place ≤ k = omega (arith, q, b) in (
                  omega (arith, h.0, one),
                  record {
                    low = from_back place from from' f k late h.1.low;
                    own = out.moved k late h.0 ∙ h.1.own;
                    before = no_row_falls g from (k + 1) from' k f (drops place (k + 1) k (omega (arith, late)) refl) (omega (arith, h.0, one)) h.1.before;
                  },
                );
          })

      before : x ≤ place + 1 → Leads ws' g from' n (fallen (place + 1) x)
      before b =
          rw (fallen-before (place + 1) x b)
          (record {
            none = λ z. no_row_falls g from count from' n f whole (omega arith) (l.none z);
            some = λ k z.
                let h = l.some k z in
                let early : k < place = omega (arith, z, b, apart) in (
                  omega (arith, early, here, one),
                  record {
                    low = from_front place from from' f k early h.1.low;
                    own = out.same k early ∙ h.1.own;
                    before = no_row_falls g from k from' k f (stays place k k (omega (arith, early)) refl) (omega (arith, early, here, one)) h.1.before;
                  },
                );
          })

  -- or a last row
  trails_falls : {g x : ℕ} → Trails ws g count x → (x ≡ place + 1 → ⊥) → Trails ws' g n (fallen (place + 1) x)
  trails_falls {g} {x} l apart = ⊎_elim behind before (lt_or_le (place + 1) x)
    where
      behind : place + 1 < x → Trails ws' g n (fallen (place + 1) x)
      behind b =
          rw (fallen-behind (place + 1) x b)
          (record {
            none = λ z. absurd (omega (arith, z, b));
            some = λ k z.
                let q : x ≡ k + 1 + 1 = omega (arith, z, b) in
                let h = l.some (k + 1) q in
                let late : place ≤ k = omega (arith, q, b) in
                record {
                  inside = omega (arith, h.inside, one);
                  own = out.moved k late h.inside ∙ h.own;
                  behind = no_row_falls g (k + 1 + 1) count (k + 1) n (drops place (k + 1 + 1) (k + 1) (omega (arith, late)) refl) whole (omega arith) h.behind;
                };
          })

      before : x ≤ place + 1 → Trails ws' g n (fallen (place + 1) x)
      before b =
          rw (fallen-before (place + 1) x b)
          (record {
            none = λ z. no_row_falls g 0 count 0 n (stays place 0 0 (omega arith) refl) whole (omega arith) (l.none z);
            some = λ k z.
                let h = l.some k z in
                let early : k < place = omega (arith, z, b, apart) in
                record {
                  inside = omega (arith, early, here, one);
                  own = out.same k early ∙ h.own;
                  behind = no_row_falls g (k + 1) count (k + 1) n (stays place (k + 1) (k + 1) (omega (arith, early)) refl) whole (omega arith) h.behind;
                };
          })

-- rows before that are not the guest's
leads_wide : (ws : List ℕ) (g a from n x : ℕ) → a ≤ from → NoRow ws g a from → Leads ws g from n x → Leads ws g a n x
leads_wide ws g a from n x low r l =
    record {
      none = λ e. join n (l.none e);
      some = λ k e. let h = l.some k e in (h.0, record { low = omega (arith, low, h.1.low); own = h.1.own; before = join k h.1.before });
    }
  where
    join : (upto : ℕ) → NoRow ws g from upto → NoRow ws g a upto
    join upto r' j m high own = ⊎_elim (λ (early : j < from). r j m early own) (λ (late : from ≤ j). r' j late high own) (lt_or_le j from)

-- THE NUMBERS

-- what becomes of them where the row at `place` goes, the first of guest g, and n rows are left
pub record Unlinked (ix ix' : List ℕ) (place n g : ℕ) : Type 0 where
  pub first_own : first_at ix' g ≡ fallen (place + 1) (next_at ix place)
  pub firsts : (h : ℕ) → h < most_guests → (h ≡ g → ⊥) → first_at ix' h ≡ fallen (place + 1) (first_at ix h)
  pub last_none : next_at ix place ≡ 0 → last_at ix' g ≡ 0
  pub last_own : 0 < next_at ix place → last_at ix' g ≡ fallen (place + 1) (last_at ix g)
  pub lasts : (h : ℕ) → h < most_guests → (h ≡ g → ⊥) → last_at ix' h ≡ fallen (place + 1) (last_at ix h)
  pub front : (k : ℕ) → k < place → next_at ix' k ≡ fallen (place + 1) (next_at ix k)
  pub back : (k : ℕ) → place ≤ k → k < n → next_at ix' k ≡ fallen (place + 1) (next_at ix (k + 1))

-- the numbers before they fall: the guest's first is its next, and its last is s
abbrev pub handed : List ℕ → (place g s : ℕ) → List ℕ
handed ix place g s = set (set ix g (next_at ix place)) (LASTS + g) s

module _ (ix : List ℕ) (place g s : ℕ) (long : length ix ≡ index_wide) (fits : g < most_guests) where
  handed-first : first_at (handed ix place g s) g ≡ next_at ix place
  handed-first =
      get_or-set_other (set ix g (next_at ix place)) (LASTS + g) g s 0 (λ z. omega (arith, z))
      ∙ get_or-set_same ix g (next_at ix place) 0 (omega (arith, long, fits))

  handed_last : last_at (handed ix place g s) g ≡ s
  handed_last = get_or-set_same (set ix g (next_at ix place)) (LASTS + g) s 0 (rw length-set (omega (arith, long, fits)))

  handed_other : (j : ℕ) → (j ≡ g → ⊥) → (j ≡ LASTS + g → ⊥) → get_or (handed ix place g s) j 0 ≡ get_or ix j 0
  handed_other j a b = get_or-set_other (set ix g (next_at ix place)) (LASTS + g) j s 0 b ∙ get_or-set_other ix g j (next_at ix place) 0 a

  -- what the two passes leave
  pub unlinked_by : (ix' ix'' : List ℕ) (count : ℕ) → place < count
      → (next_at ix place ≡ 0 → s ≡ 0) → (0 < next_at ix place → s ≡ last_at ix g)
      → Rewritten (λ j. fallen (place + 1) (get_or (handed ix place g s) j 0)) (handed ix place g s) ix' 0 (NEXTS + place)
      → Rewritten (λ j. fallen (place + 1) (get_or ix' (j + 1) 0)) ix' ix'' (NEXTS + place) (NEXTS + count - 1)
      → Unlinked ix ix'' place (count - 1) g
  unlinked_by ix' ix'' count here none some fell closed =
      record {
        first_own = up g (omega (arith, fits)) ∙ ap (fallen (place + 1)) handed-first;
        firsts = λ h known apart. up h (omega (arith, known)) ∙ ap (fallen (place + 1)) (handed_other h apart (λ z. omega (arith, z, known)));
        last_none = λ z. up (LASTS + g) (omega (arith, fits)) ∙ ap (fallen (place + 1)) (handed_last ∙ none z) ∙ fallen-before (place + 1) 0 (omega arith);
        last_own = λ l. up (LASTS + g) (omega (arith, fits)) ∙ ap (fallen (place + 1)) (handed_last ∙ some l);
        lasts = λ h known apart. up (LASTS + h) (omega (arith, known)) ∙ ap (fallen (place + 1)) (handed_other (LASTS + h) (λ z. omega (arith, z, fits)) (λ z. apart (omega (arith, z))));
        front = λ k l. up (NEXTS + k) (omega (arith, l)) ∙ ap (fallen (place + 1)) (handed_other (NEXTS + k) (λ z. omega (arith, z, fits)) (λ z. omega (arith, z, fits)));
        back = λ k l h.
            closed.done (NEXTS + k) (omega (arith, l)) (omega (arith, h))
            ∙ ap (fallen (place + 1))
            (fell.back (NEXTS + k + 1) (omega (arith, l))
            ∙ handed_other (NEXTS + k + 1) (λ z. omega (arith, z, fits)) (λ z. omega (arith, z, fits))
            ∙ ap (λ (j : ℕ). get_or ix j 0) (omega arith));
      }
    where
      up : (j : ℕ) → j < NEXTS + place → get_or ix'' j 0 ≡ fallen (place + 1) (get_or (handed ix place g s) j 0)
      up j l = closed.front j l ∙ fell.done j (omega arith) l

-- THE INDEX of the rows that are left

module _ (ws ws' ix ix' : List ℕ) (place count n g : ℕ) (one : count ≡ n + 1) (here : place < count) (fits : g < most_guests)
    (i : Indexed ws ix count) (head : Head ws g 0 place) (out : Loses ws ws' count place) (u : Unlinked ix ix' place n g) where
  -- the next row of the one that goes
  ahead : Leads ws g (place + 1) count (next_at ix place)
  ahead = next_of i place here head.own

  -- another guest does not have the row that goes
  first-apart : (h : ℕ) → h < most_guests → (h ≡ g → ⊥) → first_at ix h ≡ place + 1 → ⊥
  first-apart h known apart e = apart (sym ((i.first h known).some place e).1.own ∙ head.own)

  last_apart : (h : ℕ) → h < most_guests → (h ≡ g → ⊥) → last_at ix h ≡ place + 1 → ⊥
  last_apart h known apart e = apart (sym ((i.last h known).some place e).own ∙ head.own)

  first-own : Leads ws' g 0 n (first_at ix' g)
  first-own =
      rw u.first_own
      (leads_wide ws' g 0 place n (fallen (place + 1) (next_at ix place)) (omega arith) (no_row_alike ws ws' place out.same g 0 place (omega arith) head.before)
      (leads_falls ws ws' place count n one here out place (drops place (place + 1) place (omega arith) refl) ahead (λ e. omega (arith, (ahead.some place e).1.low))))

  firsts_is : (h : ℕ) → h < most_guests → Leads ws' h 0 n (first_at ix' h)
  firsts_is h known =
      ⊎_elim
      (λ (q : h ≡ g). rw q first-own)
      (λ (q : h ≡ g → ⊥).
      rw (u.firsts h known q)
      (leads_falls ws ws' place count n one here out 0 (stays place 0 0 (omega arith) refl) (i.first h known) (first-apart h known q)))
      (eq_or_not h g)

  last_own : Trails ws' g n (last_at ix' g)
  last_own =
      ⊎_elim
      (λ (l : 0 < next_at ix place).
      let m = ahead.some (next_at ix place - 1) (omega (arith, l)) in
      rw (u.last_own l)
      (trails_falls ws ws' place count n one here out (i.last g fits) (λ e. ((i.last g fits).some place e).behind (next_at ix place - 1) m.1.low m.0 m.1.own)))
      (λ (l : next_at ix place ≤ 0).
      let z : next_at ix place ≡ 0 = omega (arith, l) in
      let none : first_at ix' g ≡ 0 = u.first_own ∙ ap (fallen (place + 1)) z ∙ fallen-before (place + 1) 0 (omega arith) in
      rw (u.last_none z) (record { none = λ e. first-own.none none; some = λ k e. absurd (omega (arith, e)) }))
      (lt_or_le 0 (next_at ix place))

  lasts_is : (h : ℕ) → h < most_guests → Trails ws' h n (last_at ix' h)
  lasts_is h known =
      ⊎_elim
      (λ (q : h ≡ g). rw q last_own)
      (λ (q : h ≡ g → ⊥). rw (u.lasts h known q) (trails_falls ws ws' place count n one here out (i.last h known) (last_apart h known q)))
      (eq_or_not h g)

  nexts_is : (k : ℕ) → k < n → Leads ws' (owner_of ws' k) (k + 1) n (next_at ix' k)
  nexts_is k l =
      ⊎_elim
      (λ (early : k < place).
      let was = i.next k (omega (arith, early, here)) in
      rw (out.same k early, u.front k early)
      (leads_falls ws ws' place count n one here out (k + 1) (stays place (k + 1) (k + 1) (omega (arith, early)) refl) was
      (λ e. head.before k (omega arith) early (sym (was.some place e).1.own ∙ head.own))))
      (λ (late : place ≤ k).
      let was = i.next (k + 1) (omega (arith, l, one)) in
      rw (out.moved k late (omega (arith, l, one)), u.back k late l)
      (leads_falls ws ws' place count n one here out (k + 1) (drops place (k + 1 + 1) (k + 1) (omega (arith, late)) refl) was (λ e. omega (arith, late, (was.some place e).1.low))))
      (lt_or_le k place)

  pub unlinked_is : length ix' ≡ index_wide → Indexed ws' ix' n
  unlinked_is long =
      record {
        long = long;
        few = omega (arith, i.few, one);
        owned = λ k l.
            ⊎_elim
            (λ (early : k < place). rw (out.same k early) (i.owned k (omega (arith, early, here))))
            (λ (late : place ≤ k). rw (out.moved k late (omega (arith, l, one))) (i.owned (k + 1) (omega (arith, l, one))))
            (lt_or_le k place);
        first = firsts_is;
        last = lasts_is;
        next = nexts_is;
      }
