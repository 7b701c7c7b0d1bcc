-- What the numbers of an index say to those who read it: along the rows of a guest, and of a guest's first and last row, where tags rise. Assumes nothing.
use Rattle.std.specs.Prelude.{ℕ, ◌+◌, ◌-◌, ◌≤◌, ◌<◌, ◌≡◌, refl, Bool, true, false, List, eqb}
use Rattle.std.proofs.Common.{subst, ⊎_elim, arith, eqb-true}
use Rattle.std.proofs.lemmas.Bool.{eqb-false}
use Rattle.lists.specs.Tab.{lt_or_le}
use Rattle.table.specs.Columns.{RTAG, LTAG, STAG, waiting_at}
use Rattle.walks.specs.Walks.{Rising}
use Rattle.index.specs.Index.{next_at, owner_of, Head, Tail, Leads, Indexed}
use Rattle.index.proofs.Laws.{next_of, ahead, ahead_less}

-- ALONG THE ROWS OF A GUEST

module _ {ws : List ℕ} {n g from x : ℕ} (l : Leads ws g from n x) (more : 0 < x) where
  -- a number that is not 0 says a row
  pub row_here : (x - 1 < n) × Head ws g from (x - 1)
  row_here = l.some (x - 1) (omega (arith, more))

  -- the number at that row leads on
  pub row_next : {ix : List ℕ} → Indexed ws ix n → Leads ws g (x - 1 + 1) n (next_at ix (x - 1))
  row_next i = next_of i (x - 1) row_here.0 row_here.1.own

  -- and with it fewer rows are ahead
  pub row_further : {ix : List ℕ} → Indexed ws ix n → ahead n (next_at ix (x - 1)) < ahead n x
  row_further {ix} i =
      let up : x - 1 + 1 ≡ x = omega (arith, more) in
      subst (λ (m : ℕ). ahead n (next_at ix (x - 1)) < ahead n m) up (ahead_less (x - 1) row_here.0 (row_next i))

-- A GUEST'S FIRST ROW AND ITS LAST

-- a row of the guest is its first or stands behind it
pub head_first : {ws : List ℕ} {g j k : ℕ} → Head ws g 0 j → owner_of ws k ≡ g → j ≤ k
head_first {ws} {g} {j} {k} h own = ⊎_elim (λ (l : k < j). absurd (h.before k (omega arith) l own)) (λ (l : j ≤ k). l) (lt_or_le k j)

-- and is its last or stands before it
pub tail_last : {ws : List ℕ} {g n j k : ℕ} → Tail ws g n j → k < n → owner_of ws k ≡ g → k ≤ j
tail_last {ws} {g} {n} {j} {k} t here own = ⊎_elim (λ (l : j < k). absurd (t.behind k (omega arith) here own)) (λ (l : k ≤ j). l) (lt_or_le j k)

-- of two rows of one guest the later has no smaller tag
pub rising_on : (ws : List ℕ) (n j k : ℕ) → Rising ws n → j ≤ k → k < n → owner_of ws j ≡ owner_of ws k
    → (waiting_at ws j RTAG ≤ waiting_at ws k RTAG) × (waiting_at ws j LTAG ≤ waiting_at ws k LTAG) × (waiting_at ws j STAG ≤ waiting_at ws k STAG)
rising_on ws n j k rising low here own = go (eqb j k) refl
  where
    go : (b : Bool) → eqb j k ≡ b → (waiting_at ws j RTAG ≤ waiting_at ws k RTAG) × (waiting_at ws j LTAG ≤ waiting_at ws k LTAG) × (waiting_at ws j STAG ≤ waiting_at ws k STAG)
    go true e = rw (eqb-true j k e) (omega arith, omega arith, omega arith)
    go false e = rising j k (omega (arith, low, eqb-false j k e)) here own

-- GUEST BY GUEST

-- what is so of the rows of the guests before g, and of its own, is so of the rows of one guest more
pub guests_more : (P : ℕ → Type 0) (ws : List ℕ) (n g : ℕ) → ((k : ℕ) → k < n → owner_of ws k < g → P k) → ((k : ℕ) → k < n → owner_of ws k ≡ g → P k)
    → (k : ℕ) → k < n → owner_of ws k < g + 1 → P k
guests_more P ws n g before own k here low =
    ⊎_elim (λ (l : owner_of ws k < g). before k here l) (λ (l : g ≤ owner_of ws k). own k here (omega (arith, low, l))) (lt_or_le (owner_of ws k) g)
