-- The choice of one phase, guest by guest: what is held after some guests, where the first row of each is looked at. A row goes before another by the smaller
-- tag, and of equal tags by the earlier place: tag and place are one number here, 2,048 places to a tag. Assumes nothing.
use Rattle.std.specs.Prelude.{ℕ, ◌+◌, ◌-◌, ◌*◌, ◌≤◌, ◌<◌, ◌≡◌, Bool, ◌&&◌, ◌||◌, List, ◌⊎◌, eqb, ltb, if◌then◌else◌, Some, None}
use Rattle.std.proofs.Math.Path.{refl}
use Rattle.std.proofs.Common.{sym, ap, ◌∙◌, inl, arith, eqb-true, ltb-true, ltb-false, leb-true}
use Rattle.std.proofs.Math.Bool.{true, false}
use Rattle.std.proofs.lemmas.Bool.{false≢true, eqb-false}
use Rattle.std.proofs.Math.Logic.{inr}
use Rattle.std.proofs.Math.ListN.{length}
use Rattle.lists.specs.RowsLaws.{length-rows}
use Rattle.rules.specs.Numbers.{ceiling}
use Rattle.rules.specs.Tables.{Request}
use Rattle.rules.specs.Chosen.{at}
use Rattle.rules.proofs.Places.{least_at, least-none}
use Rattle.table.specs.Columns.{RESERVATION, LTAG, most_capacity, guest_at, waiting_at}
use Rattle.table.specs.View.{request_form, waiting_of}
use Rattle.walks.specs.Walks.{Picks, Owned, Rising, Counts}
use Rattle.walks.specs.WalksRows.{due_in, open_in, due_parts, open_at}
use Rattle.index.specs.Index.{owner_of, Head, Leads}
use Rattle.seeks.specs.Reads.{row_here, head_first, rising_on, guests_more}
use Rattle.heads.specs.Heads.{Barred, before, nearer, found_in}
use Rattle.heads.specs.declared.Held.{Held}

-- a tag and a place as one number
abbrev key : (tag place : ℕ) → ℕ
key tag place = tag * 2048 + place

-- the row that is held is one that is ok
pub record Holding (ok : Request → Bool) (tag : Request → ℕ) (rows : List Request) (count : ℕ) (h : Held) : Type 0 where
  pub inside : h.place < count
  pub good : ok (at rows h.place) ≡ true
  pub tagged : h.tag ≡ tag (at rows h.place)

-- of the rows of the guests before g that are ok, none goes before the one that is held; or none is held yet
pub record Leading (ok : Request → Bool) (tag : Request → ℕ) (ws : List ℕ) (count top g : ℕ) (h : Held) : Type 0 where
  pub inside : h.place ≤ count
  pub under : h.tag ≤ top
  pub low : (k : ℕ) → k < count → owner_of ws k < g → ok (at (waiting_of ws count) k) ≡ true → key h.tag h.place ≤ key (tag (at (waiting_of ws count) k)) k
  pub held : ((h.place ≡ count) × (h.tag ≡ top)) ⊎ Holding ok tag (waiting_of ws count) count h

-- a row that goes before the one that is held has the smaller number
before_less : (h : Held) (place tag : ℕ) → place ≤ most_capacity → before h place tag ≡ true → (tag ≤ h.tag) × (key tag place < key h.tag h.place)
before_less h place tag few = go (ltb tag h.tag) refl (eqb tag h.tag) refl (ltb place h.place) refl
  where
    go : (a : Bool) → ltb tag h.tag ≡ a → (b : Bool) → eqb tag h.tag ≡ b → (c : Bool) → ltb place h.place ≡ c → (a || (b && c)) ≡ true → (tag ≤ h.tag) × (key tag place < key h.tag h.place)
    go true p b q c r e = let l = ltb-true tag h.tag p in (omega (arith, l), omega (arith, l, few))
    go false p true q true r e = let l = eqb-true tag h.tag q in (omega (arith, l), omega (arith, l, ltb-true place h.place r))
    go false p true q false r e = absurd (false≢true e)
    go false p false q c r e = absurd (false≢true e)

-- and one that does not has not
before_not : (h : Held) (place tag : ℕ) → h.place ≤ most_capacity → before h place tag ≡ false → key h.tag h.place ≤ key tag place
before_not h place tag few = go (ltb tag h.tag) refl (eqb tag h.tag) refl (ltb place h.place) refl
  where
    go : (a : Bool) → ltb tag h.tag ≡ a → (b : Bool) → eqb tag h.tag ≡ b → (c : Bool) → ltb place h.place ≡ c → (a || (b && c)) ≡ false → key h.tag h.place ≤ key tag place
    go true p b q c r e = absurd (false≢true (sym e))
    go false p true q true r e = absurd (false≢true (sym e))
    go false p true q false r e = omega (arith, eqb-true tag h.tag q, ltb-false place h.place r)
    go false p false q c r e = omega (arith, ltb-false tag h.tag p, eqb-false tag h.tag q, few)

-- a tag that counts, or none that is at most the ceiling
counts_low : (b : Bool) {tag t : ℕ} → Counts b tag t → t ≤ ceiling → (b ≡ true) × (t ≡ tag)
counts_low true c l = (refl, c)
counts_low false c l = absurd (omega (arith, c, l))

-- where it counts it is the tag
counts_is : (b : Bool) {tag t : ℕ} → Counts b tag t → b ≡ true → t ≡ tag
counts_is true c e = c
counts_is false c e = absurd (false≢true e)

module _ (ws : List ℕ) (count : ℕ) where
  abbrev rows : List Request
  rows = waiting_of ws count

  module _ {ok : Request → Bool} {tag : Request → ℕ} {top : ℕ} where
    -- before the first guest
    pub leading_start : Leading ok tag ws count top 0 (record { place = count; tag = top })
    leading_start = record { inside = omega arith; under = omega arith; low = λ k here l o. absurd (omega (arith, l)); held = inl (refl, refl) }

    module _ {g : ℕ} {h : Held} (w : Leading ok tag ws count top g h) where
      -- a guest with no row that is ok
      pub leading_none : ((k : ℕ) → k < count → owner_of ws k ≡ g → ok (at rows k) ≡ true → ⊥) → Leading ok tag ws count top (g + 1) h
      leading_none none =
          record {
            inside = w.inside;
            under = w.under;
            low = guests_more (λ k. ok (at rows k) ≡ true → key h.tag h.place ≤ key (tag (at rows k)) k) ws count g w.low (λ k here own o. absurd (none k here own o));
            held = w.held;
          }

      -- a guest's first row, with what the code makes of its tag: the rest of its rows do not go before it
      module _ (few : count ≤ most_capacity) (capped : top ≤ ceiling) {j : ℕ} (here : j < count) (first : Head ws g 0 j) (t : ℕ) (b : Bool) (counts : Counts b (tag (at rows j)) t)
          (so : ok (at rows j) ≡ true → b ≡ true) (back : b ≡ true → tag (at rows j) ≤ top → ok (at rows j) ≡ true)
          (behind : (k : ℕ) → j < k → k < count → owner_of ws j ≡ owner_of ws k → ok (at rows k) ≡ true → (ok (at rows j) ≡ true) × (tag (at rows j) ≤ tag (at rows k))) where
        pub leading_look : Leading ok tag ws count top (g + 1) (nearer h j t)
        unfolding nearer
        leading_look = go (before h j t) refl
          where
            -- so what does not go before the first goes before none of them
            follows : (x : ℕ) → (ok (at rows j) ≡ true → x ≤ key t j) → (k : ℕ) → k < count → owner_of ws k ≡ g → ok (at rows k) ≡ true → x ≤ key (tag (at rows k)) k
            follows x low k there own o = go (eqb j k) refl
              where
                go : (c : Bool) → eqb j k ≡ c → x ≤ key (tag (at rows k)) k
                go true e =
                    let same = eqb-true j k e in
                    let fine : ok (at rows j) ≡ true = rw same o in
                    let q : tag (at rows j) ≡ tag (at rows k) = ap (λ (i : ℕ). tag (at rows i)) same in
                    omega (arith, low fine, counts_is b counts (so fine), same, q)
                go false e =
                    let r = behind k (omega (arith, head_first first own, eqb-false j k e)) there (first.own ∙ sym own) o in
                    omega (arith, low r.0, counts_is b counts (so r.0), r.1, head_first first own)

            go : (c : Bool) → before h j t ≡ c → Leading ok tag ws count top (g + 1) (if c then record { place = j; tag = t } else h)
            go true e =
                let l = before_less h j t (omega (arith, here, few)) e in
                let c = counts_low b counts (omega (arith, l.0, w.under, capped)) in
                record {
                  inside = omega (arith, here);
                  under = omega (arith, l.0, w.under);
                  low = guests_more (λ k. ok (at rows k) ≡ true → key t j ≤ key (tag (at rows k)) k) ws count g (λ k there m o. omega (arith, l.1, w.low k there m o)) (follows (key t j) (λ o. omega arith));
                  held = inr (record { inside = here; good = back c.0 (omega (arith, c.1, l.0, w.under)); tagged = c.1 });
                }
            go false e =
                record {
                  inside = w.inside;
                  under = w.under;
                  low = guests_more (λ k. ok (at rows k) ≡ true → key h.tag h.place ≤ key (tag (at rows k)) k) ws count g w.low
                      (follows (key h.tag h.place) (λ o. before_not h j t (omega (arith, w.inside, few)) e));
                  held = w.held;
                }

      -- behind the last guest the phase picks what is held
      pub leading_picks : Owned ws count g → count ≤ most_capacity → ((k : ℕ) → k < count → ok (at rows k) ≡ true → tag (at rows k) ≤ top) → Picks ok tag rows (found_in h count)
      unfolding found_in
      leading_picks owned few fits = go (ltb h.place count) refl w.held
        where
          all : (k : ℕ) → k < length rows → ok (at rows k) ≡ true → key h.tag h.place ≤ key (tag (at rows k)) k
          all k l o = let there : k < count = omega (arith, l, length-rows request_form ws count) in w.low k there (owned k there) o

          go : (c : Bool) → ltb h.place count ≡ c → ((h.place ≡ count) × (h.tag ≡ top)) ⊎ Holding ok tag rows count h → Picks ok tag rows (if c then Some h.place else None)
          go true e (inl n) = absurd (omega (arith, n.0, ltb-true h.place count e))
          go true e (inr k) =
              let inside : h.place < length rows = omega (arith, k.inside, length-rows request_form ws count) in
              record {
                pick = least_at ok tag rows h.place
                    (record {
                      inside = inside;
                      good = k.good;
                      smallest = λ j l o. omega (arith, all j l o, k.tagged, k.inside, few, l, length-rows request_form ws count);
                      earliest = λ j l o. omega (arith, all j (omega (arith, l, inside)) o, k.tagged, l);
                    });
                inside = inside;
              }
          go false e (inr k) = absurd (omega (arith, k.inside, ltb-false h.place count e))
          go false e (inl n) = record { pick = least-none ok tag rows (λ j l. none j l (ok (at rows j)) refl); inside = tt }
            where
              none : (j : ℕ) → j < length rows → (c : Bool) → ok (at rows j) ≡ c → c ≡ false
              none j l false o = refl
              none j l true o =
                  let there : j < count = omega (arith, l, length-rows request_form ws count) in
                  absurd (omega (arith, all j l o, n.0, n.1, fits j there o, there))

-- where the first row is barred, or there is none, no row of its guest goes
module _ (gs ws : List ℕ) (known count time latest : ℕ) {g x : ℕ} (leads : Leads ws g 0 count x) (barred : (j : ℕ) → x ≡ j + 1 → Barred gs ws g j time) (rising : Rising ws count) where
  -- a row of the guest has its first before it, and is that or has no smaller tags
  first_of : (k : ℕ) → k < count → owner_of ws k ≡ g → Barred gs ws g k time
  first_of k here own = go (eqb x 0) refl
    where
      go : (c : Bool) → eqb x 0 ≡ c → Barred gs ws g k time
      go true e = absurd (leads.none (eqb-true x 0 e) k (omega arith) here own)
      go false e =
          let r = row_here leads (omega (arith, eqb-false x 0 e)) in
          let b = barred (x - 1) (omega (arith, eqb-false x 0 e)) in
          let u = rising_on ws count (x - 1) k rising (head_first r.1 own) here (r.1.own ∙ sym own) in
          record { limited = omega (arith, b.limited, u.1); undue = λ h. omega (arith, b.undue h, u.0) }

  -- by reservation
  pub due_barred : Owned ws count known → (k : ℕ) → k < count → owner_of ws k ≡ g → due_in gs known time latest (at (waiting_of ws count) k) ≡ true → ⊥
  due_barred owned k here own o =
      let p = due_parts ws count k here gs known time latest owned o in
      omega (arith, (first_of k here own).undue (ltb-true 0 (guest_at gs g RESERVATION) (rw own at p.0)), p.1)

  -- nor by weight
  pub open_barred : (k : ℕ) → k < count → owner_of ws k ≡ g → open_in time (at (waiting_of ws count) k) ≡ true → ⊥
  open_barred k here own o = omega (arith, (first_of k here own).limited, leb-true (waiting_at ws k LTAG) time (sym (open_at ws count k here time) ∙ o))
