-- The rows of the list are those of the dropped events, each with its reason, and each event is kept or has a row. Assumes nothing.
use Prim.Native.Nat.{ℕ, zero, suc, ◌+◌, ◌*◌, ◌≤◌, ◌<◌}
use mathlib.Core.Path.{◌≡◌, refl, sym, ap, ◌∙◌, subst}
use mathlib.Core.List.Memᴰ
use mathlib.Core.List.{List, [], Memᴰ}
use mathlib.Core.Logic.{◌↔◌, ⊎_elim}
use native.Mathlib.Omega.{arith}
use native.Mathlib.Nat.{eq-or-lt_of_le}
use lib.ListN.{length}
use Rattle.trace.specs.Header.{version_of}
use Rattle.trace.specs.Answers.{event_bytes}
use Rattle.salvage.specs.Fates.{reason_in, fate_at, Fate, reason_number}
use Rattle.salvage.specs.Result.{Row, row_by, kept_of, rows_of, rows_in, kept_in}
use Rattle.salvage.specs.Judging.{bytes_for, rows_for}
use Rattle.salvage.specs.Cases.{events_in, reason_at, row_at}
use Rattle.salvage.proofs.Counts.{length-kept-more, length-rows-more}
use Rattle.salvage.proofs.Fields.{reason_some}
use Rattle.std.specs.Prelude.{Ok, Err}

-- a row of this number and reason
abbrev row : ℕ → ℕ → Row
row n r = record { number = n; reason = r }

-- ONE EVENT

row_in : (f : Fate) (n m r : ℕ) → Memᴰ (row n r) (row_by f m) → (n ≡ m) × (0 < r) × (reason_in f ≡ r)
row_in (Ok t) n m r h = absurd (Memᴰ.not-nil h)
row_in (Err x) n m r h =
    let e = Memᴰ.eq_of_singleton h in
    let z : reason_number x ≡ r = sym (ap Row.reason e) in
    (ap Row.number e, omega (arith, reason_some x), z)

in_row : (f : Fate) (m r : ℕ) → 0 < r → reason_in f ≡ r → Memᴰ (row m r) (row_by f m)
in_row (Ok t) m r h e = absurd (omega arith)
in_row (Err x) m r h e = Memᴰ.head (λ i. row m (sym e i))

-- THE FIRST n EVENTS

module _ (v : ℕ) (bs : List ℕ) where
  rows_in_lem : (n k r : ℕ) → Memᴰ (row (k + 1) r) (rows_of v bs n) → (k < n) × (0 < r) × (reason_in (fate_at v bs k) ≡ r)
  unfolding rows_of
  rows_in_lem zero k r h = absurd (Memᴰ.not-nil h)
  rows_in_lem (suc n) k r h =
      ⊎_elim
      (λ m. let p = rows_in_lem n k r m in (omega (arith, p.0), p.1, p.2))
      (λ m.
      let p = row_in (fate_at v bs n) (k + 1) (n + 1) r m in
      let e : n ≡ k = omega (arith, p.0) in
      (omega arith, p.1, ap (λ (j : ℕ). reason_in (fate_at v bs j)) (sym e) ∙ p.2))
      (Memᴰ.append_cases (rows_of v bs n) h)

  in_rows : (n k r : ℕ) → k < n → 0 < r → reason_in (fate_at v bs k) ≡ r → Memᴰ (row (k + 1) r) (rows_of v bs n)
  unfolding rows_of
  in_rows zero k r l h e = absurd (omega arith)
  in_rows (suc n) k r l h e =
      ⊎_elim
      (λ p. Memᴰ.append_right (rows_of v bs n) (subst (λ (j : ℕ). Memᴰ (row (k + 1) r) (row_by (fate_at v bs j) (j + 1))) p (in_row (fate_at v bs k) (k + 1) r h e)))
      (λ p. Memᴰ.append_left (row_by (fate_at v bs n) (n + 1)) (in_rows n k r p h e))
      (eq-or-lt_of_le (below k n l))
    where
      below : (k n : ℕ) → k < suc n → k ≤ n
      below k n h = omega arith

  -- where there are no rows, each is kept
  pub no_rows : (n : ℕ) → rows_of v bs n ≡ [] → (k : ℕ) → k < n → reason_in (fate_at v bs k) ≡ 0
  no_rows n e k h = go (reason_in (fate_at v bs k)) refl
    where
      go : (r : ℕ) → reason_in (fate_at v bs k) ≡ r → reason_in (fate_at v bs k) ≡ 0
      go zero z = z
      go (suc r) z = absurd (Memᴰ.not-nil (subst (Memᴰ (row (k + 1) (suc r))) e (in_rows n k (suc r) h (omega arith) z)))

  -- each event is kept, or has a row
  one_each : (f : Fate) → bytes_for f + rows_for f * 14 ≡ 14
  one_each (Ok t) = refl
  one_each (Err r) = refl

  told : (n : ℕ) → length (kept_of v bs n) + length (rows_of v bs n) * 14 ≡ n * 14
  unfolding kept_of rows_of
  told zero = refl
  told (suc n) =
      let e : n + 1 ≡ suc n = omega arith in
      let a : length (kept_of v bs (suc n)) ≡ length (kept_of v bs n) + bytes_for (fate_at v bs n) = ap (λ (k : ℕ). length (kept_of v bs k)) (sym e) ∙ length-kept-more v bs n in
      let b : length (rows_of v bs (suc n)) ≡ length (rows_of v bs n) + rows_for (fate_at v bs n) = ap (λ (k : ℕ). length (rows_of v bs k)) (sym e) ∙ length-rows-more v bs n in
      omega (arith, a, b, told n, one_each (fate_at v bs n))

-- OF A TRACE

-- an event and a reason stand in the list exactly where the event is dropped for it
pub listed : (bs : List ℕ) (k r : ℕ) → Memᴰ (row_at k r) (rows_in bs) ↔ ((k < events_in bs) × (0 < r) × (reason_at bs k ≡ r))
listed bs k r =
    (rows_in_lem (version_of bs) (event_bytes bs) (events_in bs) k r, λ p. in_rows (version_of bs) (event_bytes bs) (events_in bs) k r p.0 p.1 p.2)

-- as many as there are, each event is kept or has a row
pub all_told : (bs : List ℕ) → length (kept_in bs) + length (rows_in bs) * 14 ≡ events_in bs * 14
all_told bs = told (version_of bs) (event_bytes bs) (events_in bs)
