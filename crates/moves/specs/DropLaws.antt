-- What a drop after a weight send shows: the guests and the waiting requests of the definition `dropped`.
-- Assumes nothing.
use Rattle.std.specs.Prelude.{ℕ, zero, suc, ◌+◌, ◌-◌, ◌*◌, ◌≤◌, ◌<◌, ◌≡◌, refl, Bool, true, false, List, [], ◌∷◌, ◌++◌, map, eqb, length, set, if◌then◌else◌}
use Rattle.std.proofs.Common.{sym, ◌∙◌, append-nil, arith, lit<}
use Rattle.std.proofs.Math.Path.{ap}
use Rattle.lists.specs.WordsLaws.{filter-append}
use Rattle.lists.specs.Lines.{whether, line_at}
use Rattle.lists.specs.Rows.{over_rows, Unused}
use Rattle.lists.specs.RowsLaws.{row-at, rows-tab, rows_snoc, row_put, rows-changed, all_used, each_map}
use Rattle.rules.specs.Tables.{Request, Table, rplain, rspacing, owner, of, mine}
use Rattle.rules.specs.declared.Settings.{Settings}
use Rattle.rules.specs.declared.Guest.{Guest}
use Rattle.rules.specs.Choice.{earlier, resumed, renewed, drop_of, dropped}
use Rattle.table.specs.Columns.{RNEXT, guest_wide, GUEST, COST, RTAG, waiting_wide, waiting_at}
use Rattle.table.specs.View.{guest_form, request_form, guests_of, waiting_of}
use Rattle.table.specs.ViewLaws.{guest_exact, request_exact}
use Rattle.moves.specs.Moves.{fall_of, next_dropped, tag_dropped, tags_dropped, last_past}

-- the next number after a last request
resumed_last : (s : Settings) (d : ℕ) (l : List Request) (q : Request) (n : ℕ) → resumed s d (l ++ (q ∷ [])) n ≡ q.rtag - d + rspacing s q
resumed_last s d [] q n = refl
resumed_last s d (x ∷ []) q n = refl
resumed_last s d (x ∷ y ∷ l) q n = resumed_last s d (y ∷ l) q n

-- what follows the last request of a guest is the next number that is set
past_is : (s : Settings) (g d next : ℕ) (ws : List ℕ) (count : ℕ) → last_past g d (rplain s) (next - d) ws count ≡ resumed s d (mine g (waiting_of ws count)) next
past_is s g d next ws zero = rw (rows-tab request_form ws 0)
past_is s g d next ws (suc n) =
    rw (rows_snoc request_form ws n, filter-append (of g) (waiting_of ws n) (request_form.read (line_at waiting_wide ws n) ∷ [])) (go (eqb (waiting_at ws n GUEST) g) (past_is s g d next ws n))
  where
    go : (b : Bool) → last_past g d (rplain s) (next - d) ws n ≡ resumed s d (mine g (waiting_of ws n)) next
        → whether b (waiting_at ws n RTAG - d + waiting_at ws n COST * rplain s) (last_past g d (rplain s) (next - d) ws n)
        ≡ resumed s d (mine g (waiting_of ws n) ++ (if b then request_form.read (line_at waiting_wide ws n) ∷ [] else [])) next
    go true i = sym (resumed_last s d (mine g (waiting_of ws n)) (request_form.read (line_at waiting_wide ws n)) next)
    go false i = rw (append-nil (mine g (waiting_of ws n))) i

-- guest g with the next reservation number that a send at cost c leaves it, where l waits
abbrev resuming : (g c : ℕ) → List Request → Guest → Guest
resuming g c l h = renewed (resumed h.settings (c * rplain h.settings) (mine g l) h.rnext) h

module _ (n : ℕ) (gs : List ℕ) (g c : ℕ) (known : g < n) where
  -- the spacing that the numbers show is the guest's
  pub fall_is : fall_of g c gs ≡ c * rplain (owner (guests_of gs n) g).settings
  fall_is = ap (λ (h : Guest). c * rplain h.settings) (sym (row-at guest_form gs n g known))

  -- the guest's next reservation number is set
  pub next-dropped_is : n * guest_wide ≤ length gs → (ws : List ℕ) (count : ℕ)
      → next_dropped g c count ws gs ≡ over_rows guest_form n (set (guests_of gs n) g (resuming g c (waiting_of ws count) (owner (guests_of gs n) g))) gs
  unfolding renewed
  next-dropped_is room ws count =
      let h = guest_form.read (line_at guest_wide gs g) in
      row_put guest_form guest_exact n n gs room (omega arith) (all_used guest_form guest_exact n gs) g RNEXT _ _ known (lit< tt)
      (ap (λ (h : Guest). guest_form.line (resuming g c (waiting_of ws count) h)) (row-at guest_form gs n g known)
      ∙ ap (λ (m : ℕ). guest_form.line (renewed m h)) (sym (past_is h.settings g (fall_of g c gs) h.rnext ws count)))

-- the guest's waiting reservation tags drop
pub tags-dropped_is : (cap n : ℕ) (ws : List ℕ) → cap * waiting_wide ≤ length ws → n ≤ cap → Unused request_form cap n ws → (g d : ℕ)
    → tags_dropped g d ws n ≡ over_rows request_form cap (map (λ p. if of g p then earlier d p else p) (waiting_of ws n)) ws
unfolding earlier
tags-dropped_is cap n ws room fit unused g d =
    rows-changed request_form request_exact cap n ws room fit unused RTAG (lit< tt) (tag_dropped g d ws) (λ k p. if of g p then earlier d p else p) (λ k l. one k)
    ∙ ap (λ (l : List Request). over_rows request_form cap l ws) (each_map (λ p. if of g p then earlier d p else p) 0 (waiting_of ws n))
  where
    one : (k : ℕ) → set (line_at waiting_wide ws k) RTAG (tag_dropped g d ws k) ≡ request_form.line (if of g (request_form.read (line_at waiting_wide ws k)) then earlier d (request_form.read (line_at waiting_wide ws k)) else request_form.read (line_at waiting_wide ws k))
    one k =
        elim (eqb (waiting_at ws k GUEST) g) as
        (λ b. set (line_at waiting_wide ws k) RTAG (whether b (waiting_at ws k RTAG - d) (waiting_at ws k RTAG)) ≡ request_form.line (if b then earlier d (request_form.read (line_at waiting_wide ws k)) else request_form.read (line_at waiting_wide ws k)))
        [ true ↦ refl | false ↦ refl ]

-- both, for the table t that the numbers show, where q was sent
pub dropped_is : (n cap count : ℕ) (gs ws : List ℕ) (t : Table) (q : Request) → t.guests ≡ guests_of gs n → t.waiting ≡ waiting_of ws count → n * guest_wide ≤ length gs → q.guest < n → cap * waiting_wide ≤ length ws → count ≤ cap → Unused request_form cap count ws
    → (next_dropped q.guest q.cost count ws gs ≡ over_rows guest_form n (dropped q t).guests gs) × (tags_dropped q.guest (fall_of q.guest q.cost gs) ws count ≡ over_rows request_form cap (dropped q t).waiting ws)
unfolding dropped
dropped_is n cap count gs ws t q eg ew room known rows fit unused = (
  next-dropped_is n gs q.guest q.cost known room ws count
      ∙ ap (λ (hs : List Guest). over_rows guest_form n (set hs q.guest (resuming q.guest q.cost (waiting_of ws count) (owner hs q.guest))) gs) (sym eg)
      ∙ ap (λ (l : List Request). over_rows guest_form n (set t.guests q.guest (resuming q.guest q.cost l (owner t.guests q.guest))) gs) (sym ew),
  tags-dropped_is cap count ws rows fit unused q.guest (fall_of q.guest q.cost gs)
      ∙ ap (λ (d : ℕ). over_rows request_form cap (map (λ p. if of q.guest p then earlier d p else p) (waiting_of ws count)) ws)
      (fall_is n gs q.guest q.cost known ∙ ap (λ (hs : List Guest). q.cost * rplain (owner hs q.guest).settings) (sym eg))
      ∙ ap (λ (l : List Request). over_rows request_form cap (map (λ p. if of q.guest p then earlier (drop_of t q) p else p) l) ws) (sym ew),
)
