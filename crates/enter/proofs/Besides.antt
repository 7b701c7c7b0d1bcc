-- The index beside the rows at an event: what an arrival asks of it, what the placing makes of it, and that the settling of the shares, a completion and a tick leave
-- it. Assumes nothing.
use Rattle.std.specs.Prelude.{Err, Ok, Result}
use Prim.Native.Nat.{ℕ, ◌+◌, ◌-◌, ◌*◌, ◌≤◌, ◌<◌}
use mathlib.Core.Path.{◌≡◌, refl, sym, ap, ◌∙◌, subst}
use mathlib.Core.List.{List}
use native.Mathlib.Omega.{arith}
use lib.ListN.{length}
use Rattle.lists.specs.Rows.{over_rows}
use Rattle.lists.specs.RowsLaws.{length-rows, over-same}
use Rattle.rules.specs.Tables.{Table}
use Rattle.rules.specs.declared.Flight.{Flight}
use Rattle.rules.specs.declared.Gate.{Gate}
use Rattle.rules.specs.declared.Refusal.{Refusal}
use Rattle.rules.specs.declared.Arriving.{Arriving}
use Rattle.rules.specs.declared.Event.{Event}
use Rattle.rules.specs.declared.Event.TheVariants.{Completion, Tick}
use Rattle.rules.specs.Events.{complete, wait, enter}
use Rattle.rules.proofs.SameSettings.{enter-settings}
use Rattle.table.specs.Columns.{STAG, waiting_wide, most_guests, most_capacity}
use Rattle.table.specs.View.{request_form, table_of, Known}
use Rattle.table.specs.ViewLaws.{request_exact}
use Rattle.table.specs.Does.{Lent}
use Rattle.table.proofs.Facts.{facts, rows_ask}
use Rattle.walks.specs.Walks.{Owned, Rising}
use Rattle.walks.specs.Survey.{tag_of}
use Rattle.shares.specs.Shares.{moved_tags}
use Rattle.sends.proofs.Rising.{rising-rows}
use Rattle.tags.specs.declared.Stamp.{Stamp}
use Rattle.stamps.specs.Arrive.{request_of, Ready, Placeable, Placed}
use Rattle.index.specs.Index.{Beside, Gains, Snug}
use Rattle.index.proofs.Laws.{beside_alike, alike_column, gains_appended}
use Rattle.enter.specs.Enters.{Enters, EntersBeside}

-- the settling of the shares moves no row
pub beside_settled : (ws vs ix : List ℕ) (n now m : ℕ) → vs ≡ moved_tags now m ws n → Beside ws ix n → Beside vs ix n
beside_settled ws vs ix n now m e b = rw e (beside_alike ws (moved_tags now m ws n) n (alike_column STAG (λ k. tag_of ws k + now - m) n ws n (omega arith) (omega arith)) b)

-- the index follows the request that is placed
pub beside_placed : (g : Gate) (gs ws hs vs ix ix' : List ℕ) (a : Arriving) (now : ℕ) (s : Stamp) (h : Gate) → Placeable g gs ws a s → Placed g gs ws a now s h hs vs → Beside ws ix g.waiting
    → ((us us' : List ℕ) → Beside us ix g.waiting → Gains us us' g.waiting a.guest → Beside us' ix' (g.waiting + 1)) → Beside vs ix' h.waiting
beside_placed g gs ws hs vs ix ix' a now s h can done b kept =
    subst (λ (x : Gate). Beside vs ix' x.waiting) (sym done.gate) (kept ws vs b (rw done.waiting (gains_appended ws g.waiting (request_of a s) can.row)))

module _ (g : Gate) (gs ws fs : List ℕ) (k : Known g gs ws fs) where
  abbrev t : Table
  t = table_of g gs ws fs

  -- what the look at a guest's own rows asks
  pub own_asks : {ix : List ℕ} (guest : ℕ) → guest < g.guests → Beside ws ix g.waiting
      → ((g.waiting ≤ most_capacity) × (g.waiting * waiting_wide ≤ length ws) × (guest < most_guests)) × Beside ws ix g.waiting
  own_asks guest known b =
      let r = rows_ask g gs ws fs k in
      let most = (facts g gs ws fs k).counts.guest-count.1 in
      ((r.0, r.1, omega arith), b)

  -- what the look for the ends of the share tags asks
  pub ends_ask : {ix : List ℕ} → Beside ws ix g.waiting
      → ((g.waiting ≤ most_capacity) × (g.waiting * waiting_wide ≤ length ws) × (g.guests ≤ most_guests)) × ((Owned ws g.waiting g.guests × Rising ws g.waiting) × Beside ws ix g.waiting)
  ends_ask b =
      let r = rows_ask g gs ws fs k in
      let f = facts g gs ws fs k in
      ((r.0, r.1, f.counts.guest-count.1), ((f.owners, rising-rows g gs ws fs k), b))

  -- what the placing asks of a request that is ready
  pub last_asks : {vs ix : List ℕ} (a : Arriving) (now : ℕ) → Ready g gs ws fs a now → Beside vs ix g.waiting → (g.waiting < most_capacity) × (a.guest < most_guests) × Beside vs ix g.waiting
  last_asks a now ready b =
      let f = facts g gs ws fs k in
      let free : g.waiting ≡ g.setup.capacity → ⊥ = ready.free in
      let fit : g.waiting < g.setup.capacity = let w = f.waits in omega arith in
      (omega (arith, fit, f.counts.capacities.1), omega (arith, ready.timely.known, f.counts.guest-count.1), b)

  -- an event that leaves the waiting requests leaves their index
  pub beside_left : (e : Event) → (enter t e).waiting ≡ t.waiting → (x : Result Gate Refusal) (hs vs es ix : List ℕ) → Enters e g gs ws fs x hs vs es → Beside ws ix g.waiting → EntersBeside g x vs ix
  beside_left e same (Err r) hs vs es ix c b = rw c.2 b
  beside_left e same (Ok h) hs vs es ix c b =
      let s = (enter-settings t e).setup in
      let l : vs ≡ ws =
      ap (λ (y : Lent). y.2) c.shows ∙ (λ i. over_rows request_form (s i).capacity (same i) ws) ∙ over-same request_form request_exact g.setup.capacity g.waiting ws k.whole.waiting_unused in
      let n : h.waiting ≡ g.waiting = ap (λ (y : Lent). y.0.waiting) c.shows ∙ ap length same ∙ length-rows request_form ws g.waiting in
      subst (λ (y : List ℕ × ℕ). Beside y.0 ix y.1) (λ i. (sym l i, sym n i)) b

  -- beside an index the table is still lent with just the places of the gate
  pub entered_snug : (e : Event) (x : Result Gate Refusal) (hs vs es ix ix' : List ℕ) → Enters e g gs ws fs x hs vs es → (h : Gate) → x ≡ Ok h → length vs ≡ length ws → length ix' ≡ length ix → Snug g ws ix → Snug h vs ix'
  entered_snug e x hs vs es ix ix' c h p long same snug some =
      let a : Enters e g gs ws fs (Ok h) hs vs es = subst (λ (y : Result Gate Refusal). Enters e g gs ws fs y hs vs es) p c in
      let s = (enter-settings t e).setup in
      let q : h.setup.capacity ≡ g.setup.capacity = ap (λ (y : Lent). y.0.setup.capacity) a.shows ∙ (λ i. (s i).capacity) in
      long ∙ snug (rw (sym same) some) ∙ ap (λ (n : ℕ). n * waiting_wide) (sym q)

  -- as a tick does
  pub tick_leaves : (now : ℕ) → (enter t (Tick now)).waiting ≡ t.waiting
  unfolding enter wait
  tick_leaves now = refl

  -- and a completion
  pub out-leaves : (a : Flight) (now : ℕ) → (enter t (Completion a now)).waiting ≡ t.waiting
  unfolding enter complete
  out-leaves a now = refl

module _ {vs ix : List ℕ} (g : Gate) (x : Result Gate Refusal) where
  -- an event that was refused leaves the gate's rows, and their index
  pub beside_barred : (why : Refusal) → x ≡ Err why → EntersBeside g x vs ix → Beside vs ix g.waiting
  beside_barred why e b = subst (λ (y : Result Gate Refusal). EntersBeside g y vs ix) e b

  -- one that entered has the index of the rows that it left
  pub beside_entered : (h : Gate) → x ≡ Ok h → EntersBeside g x vs ix → Beside vs ix h.waiting
  beside_entered h e b = subst (λ (y : Result Gate Refusal). EntersBeside g y vs ix) e b
