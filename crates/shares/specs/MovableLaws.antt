-- Where the tags that wait are lawful, the costs are fair and every guest's numbers are in order, as in a sound table, all that the settling of the shares
-- moves can move. Assumes nothing.
use Rattle.std.specs.Prelude.{ℕ, ◌+◌, ◌*◌, ◌≤◌, ◌<◌, ◌≡◌, refl, Bool, true, false, ◌&&◌, List, [], ◌∷◌, map, leb}
use Rattle.std.proofs.Common.{sym, ap, ◌∙◌, true≢false, arith, leb-true, eqb-true}
use Rattle.lists.specs.Words.{all, empty, lowest}
use Rattle.lists.specs.WordsLaws.{both, join, all-at, all_filter, lowest-all}
use Rattle.lists.specs.Lines.{line_at}
use Rattle.lists.specs.RowsLaws.{length-rows, row-at}
use Rattle.rules.specs.Numbers.{ceiling, second, most_cost}
use Rattle.rules.specs.Tables.{Request, reserved, limited, splain, rspacing, lspacing, sspacing, owner, of, mine}
use Rattle.rules.specs.declared.Settings.{Settings}
use Rattle.rules.specs.declared.Guest.{Guest}
use Rattle.rules.proofs.Spacings.{down_le, fair_is, cost_le}
use Rattle.rules.specs.Sound.{lawful, priced, apart, follows, kept, no_gap, orderly}
use Rattle.table.specs.Columns.{SNEXT, STAG, waiting_wide, guest_at, waiting_at}
use Rattle.table.specs.View.{guest_form, request_form, guests_of, waiting_of}
use Rattle.walks.specs.Survey.{idle_in}
use Rattle.shares.specs.Shares.{TagsMove, NextsMove}

-- a request's share tag lies from m to the ceiling, and its cost is fair
abbrev inside : ℕ → Request → Bool
inside m q = leb m q.stag && leb q.stag ceiling && priced q

-- tags from m on, of lawful requests with fair costs
inside-all : (m : ℕ) (w : List Request) → all (leb m) (map Request.stag w) ≡ true → all lawful w ≡ true → all priced w ≡ true → all (inside m) w ≡ true
unfolding lawful
inside-all m [] p h k = refl
inside-all m (q ∷ w) p h k =
    let a = both (leb m q.stag) (all (leb m) (map Request.stag w)) p in
    let c = both (lawful q) (all lawful w) h in
    let d = both (priced q) (all priced w) k in
    join (join (join a.0 (both (leb q.rtag ceiling && leb q.ltag ceiling) (leb q.stag ceiling) c.0).1) d.0) (inside-all m w a.1 c.1 d.1)

-- a next share number that follows such tags
follows-inside : (s : Settings) (m : ℕ) (l : List Request) (n : ℕ) → all (inside m) l ≡ true → empty l ≡ false → follows Request.stag (sspacing s) l n ≡ true → (m ≤ n) × (n ≤ ceiling + most_cost * second)
follows-inside s m [] n a e f = absurd (true≢false e)
follows-inside s m (q ∷ []) n a e f =
    let d = both (leb m q.stag && leb q.stag ceiling) (priced q) (both (inside m q) true a).0 in
    let c = both (leb m q.stag) (leb q.stag ceiling) d.0 in
    let low : m ≤ q.stag = leb-true m q.stag c.0 in
    let high : q.stag ≤ ceiling = leb-true q.stag ceiling c.1 in
    let is : n ≡ q.stag + sspacing s q = eqb-true n (q.stag + sspacing s q) f in
    let most = cost_le q.cost (splain s) (fair_is q.cost d.1).1 (down_le s.shares) in
    (omega (arith, most), omega (arith, most))
follows-inside s m (q ∷ p ∷ l) n a e f = follows-inside s m (p ∷ l) n (both (inside m q) (all (inside m) (p ∷ l)) a).1 refl f

-- what the test of a guest says of its share tags
kept_shares : (h : Guest) (l : List Request) → orderly h l ≡ true → kept true Request.stag (sspacing h.settings) (sspacing h.settings) l h.snext ≡ true
unfolding orderly
kept_shares h l e =
    (both
    (kept (reserved h.settings) Request.rtag no_gap (rspacing h.settings) l h.rnext
    && kept (limited h.settings) Request.ltag (lspacing h.settings) (lspacing h.settings) l h.lnext)
    (kept true Request.stag (sspacing h.settings) (sspacing h.settings) l h.snext) e).1

-- and of its next share number
orderly-follows : (h : Guest) (l : List Request) → orderly h l ≡ true → follows Request.stag (sspacing h.settings) l h.snext ≡ true
unfolding kept
orderly-follows h l e = (both (apart Request.stag (sspacing h.settings) l) (follows Request.stag (sspacing h.settings) l h.snext) (kept_shares h l e)).1

module _ (gs ws : List ℕ) (known count time : ℕ) (timely : time ≤ ceiling) (fit : all lawful (waiting_of ws count) ≡ true)
    (fair : all priced (waiting_of ws count) ≡ true) where
  -- the smallest share tag that waits
  abbrev m : ℕ
  m = lowest (map Request.stag (waiting_of ws count))

  -- every share tag that waits lies from it to the ceiling
  all-inside : all (inside m) (waiting_of ws count) ≡ true
  all-inside = inside-all m (waiting_of ws count) (lowest-all (map Request.stag (waiting_of ws count)) m (omega arith)) fit fair

  -- every share tag that waits
  pub tags_movable : TagsMove time m ws count
  tags_movable k h =
      let here = sym (ap (inside m) (row-at request_form ws count k h)) ∙ all-at (inside m) (waiting_of ws count) (request_form.read []) all-inside k (omega (arith, length-rows request_form ws count)) in
      let d = both (leb m (waiting_at ws k STAG) && leb (waiting_at ws k STAG) ceiling) (priced (request_form.read (line_at waiting_wide ws k))) here in
      let c = both (leb m (waiting_at ws k STAG)) (leb (waiting_at ws k STAG) ceiling) d.0 in
      record { low = leb-true m (waiting_at ws k STAG) c.0; high = omega (arith, leb-true (waiting_at ws k STAG) ceiling c.1) }

  -- every next share number of a guest with something waiting
  pub nexts_movable : ((g : ℕ) → g < known → orderly (owner (guests_of gs known) g) (mine g (waiting_of ws count)) ≡ true)
      → NextsMove time m (idle_in ws count) gs known
  nexts_movable ordered g h busy =
      let own : Guest = owner (guests_of gs known) g in
      let c = follows-inside own.settings m (mine g (waiting_of ws count)) own.snext (all_filter (inside m) (of g) (waiting_of ws count) all-inside) busy (orderly-follows own (mine g (waiting_of ws count)) (ordered g h)) in
      let is : own.snext ≡ guest_at gs g SNEXT = ap Guest.snext (row-at guest_form gs known g h) in
      record { low = omega arith; high = omega arith }
