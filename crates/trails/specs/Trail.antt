-- The drop along the rows of a guest: the rows between two of them are as they were, and what follows the last of them is what followed the one before.
-- Assumes nothing.
use Rattle.std.specs.Prelude.{ℕ, zero, suc, ◌+◌, ◌-◌, ◌*◌, ◌≤◌, ◌<◌, ◌≡◌, List, set}
use Rattle.std.proofs.Math.Path.{refl}
use Rattle.std.proofs.Common.{sym, ap, ◌∙◌, subst, arith, add-one, eq-eqb, ne_eqb}
use Rattle.std.proofs.lemmas.List.{set-get_or}
use Rattle.lists.specs.Stores.{stores}
use Rattle.rules.specs.Numbers.{ceiling, most_cost}
use Rattle.table.specs.Columns.{GUEST, COST, RTAG, waiting_wide, most_guests, waiting_at}
use Rattle.moves.specs.Moves.{tag_dropped, tags_dropped, last_past, Lawful}
use Rattle.drops.specs.Lower.{read, past_fits, lower-next, past_next}
use Rattle.index.specs.Index.{first_at, next_at, owner_of, NoRow, Leads, Indexed}
use Rattle.index.proofs.Laws.{leads-fits}
use Rattle.seeks.specs.Reads.{row_here, row_next}

module _ (g d s next : ℕ) (xs : List ℕ) where
  -- a row of another guest
  skip_one : (k : ℕ) → (owner_of xs k ≡ g → ⊥) → (tags_dropped g d xs (k + 1) ≡ tags_dropped g d xs k) × (last_past g d s next xs (k + 1) ≡ last_past g d s next xs k)
  skip_one k other =
      let w = tags_dropped g d xs k in
      let same : waiting_at w k RTAG ≡ tag_dropped g d w k = rw (ne_eqb (waiting_at w k GUEST) g (λ e. other (sym (read g d xs w k refl GUEST) ∙ e))) in
      (sym (lower-next g d xs w k refl (waiting_at w k RTAG) same) ∙ set-get_or w (k * waiting_wide + RTAG) 0, rw (add-one k, ne_eqb (owner_of xs k) g other))

  -- rows of others
  skip : (from n : ℕ) → NoRow xs g from (from + n) → (tags_dropped g d xs (from + n) ≡ tags_dropped g d xs from) × (last_past g d s next xs (from + n) ≡ last_past g d s next xs from)
  skip from zero none = let e : from + 0 ≡ from = omega arith in (ap (tags_dropped g d xs) e, ap (last_past g d s next xs) e)
  skip from (suc n) none =
      let e : from + suc n ≡ from + n + 1 = omega arith in
      let i = skip from n (λ j l h. none j l (omega (arith, h))) in
      let o = skip_one (from + n) (none (from + n) (omega arith) (omega arith)) in
      (ap (tags_dropped g d xs) e ∙ o.0 ∙ i.0, ap (last_past g d s next xs) e ∙ o.1 ∙ i.1)

-- the rows before `from` are dropped, and the number x leads on from there
pub record Trail (g d s next : ℕ) (xs : List ℕ) (n : ℕ) (w : List ℕ) (after x : ℕ) : Type 0 where
  pub from : ℕ
  pub inside : from ≤ n
  pub leads : Leads xs g from n x
  pub fits : x ≤ n
  pub tags : w ≡ tags_dropped g d xs from
  pub past : after ≡ last_past g d s next xs from

module _ (g d s next : ℕ) {xs ix : List ℕ} {n : ℕ} (i : Indexed xs ix n) where
  -- at the guest's first row
  pub trail_start : g < most_guests → Trail g d s next xs n xs next (first_at ix g)
  trail_start h = record { from = 0; inside = omega arith; leads = i.first g h; fits = leads-fits (i.first g h); tags = unfold stores in refl; past = refl }

  module _ {w : List ℕ} {after x : ℕ} (t : Trail g d s next xs n w after x) where
    -- and up to another row where none is the guest's
    up_to : (k : ℕ) → t.from ≤ k → NoRow xs g t.from k → (w ≡ tags_dropped g d xs k) × (after ≡ last_past g d s next xs k)
    up_to k low none =
        let e : t.from + (k - t.from) ≡ k = omega (arith, low) in
        let z = skip g d s next xs t.from (k - t.from) (subst (NoRow xs g t.from) (sym e) none) in
        (t.tags ∙ sym z.0 ∙ ap (tags_dropped g d xs) e, t.past ∙ sym z.1 ∙ ap (last_past g d s next xs) e)

    -- behind the last row
    pub trail_end : x ≤ 0 → (w ≡ tags_dropped g d xs n) × (after ≡ last_past g d s next xs n)
    trail_end done = up_to n t.inside (t.leads.none (omega (arith, done)))

    module _ (more : 0 < x) where
      -- the row that is told, as it stands
      here : (x - 1 < n) × (w ≡ tags_dropped g d xs (x - 1)) × (waiting_at w (x - 1) GUEST ≡ g)
      here =
          let r = row_here t.leads more in
          let u = up_to (x - 1) r.1.low r.1.before in
          (r.0, u.0, read g d xs w (x - 1) u.0 GUEST ∙ r.1.own)

      -- its tag once it is dropped
      fallen-tag : waiting_at w (x - 1) RTAG - d ≡ tag_dropped g d w (x - 1)
      fallen-tag = rw (eq-eqb (waiting_at w (x - 1) GUEST) g here.2)

      -- what follows it does not wrap
      pub trail_fits : Lawful n xs → (waiting_at w (x - 1) RTAG - d ≤ ceiling) × (waiting_at w (x - 1) COST ≤ most_cost)
      trail_fits lawful = past_fits g d xs w (x - 1) here.1 (lawful (x - 1) here.0) (waiting_at w (x - 1) RTAG - d) fallen-tag

      -- the row is dropped
      pub trail_next : {q : ℕ} → q ≡ waiting_at w (x - 1) RTAG - d
          → Trail g d s next xs n (set w ((x - 1) * waiting_wide + RTAG) q) (q + waiting_at w (x - 1) COST * s) (next_at ix (x - 1))
      trail_next {q} e =
          record {
            from = x - 1 + 1;
            inside = omega (arith, here.0);
            leads = row_next t.leads more i;
            fits = leads-fits (row_next t.leads more i);
            tags = lower-next g d xs w (x - 1) here.1 q (e ∙ fallen-tag);
            past = past_next g d xs w (x - 1) here.1 s next (q + waiting_at w (x - 1) COST * s) q (e ∙ fallen-tag) (rw (eq-eqb (waiting_at w (x - 1) GUEST) g here.2));
          }
