-- When to wake the gate, from what the walk finds. Assumes nothing.
use Rattle.std.specs.Prelude.{Some, None}
use Prim.Native.Nat.{ℕ, ◌+◌, ◌*◌, ◌≤◌, ◌<◌, max, min}
use mathlib.Core.Path.{◌≡◌, refl, sym, ap, ◌∙◌}
use mathlib.Core.Bool.{Bool, true, false, not, ◌&&◌}
use mathlib.Core.List.{List, [], ◌∷◌, map}
use native.Mathlib.Omega.{arith}
use lib.Dec.{eqb}
use lib.ListN.{length}
use borrow.Author.Tests.{lt-ltb, le-ltb}
use Rattle.lists.specs.Words.{if◌then◌else◌, empty, lowest}
use Rattle.lists.specs.WordsLaws.{map_places}
use Rattle.lists.specs.Tab.{tab}
use Rattle.lists.specs.Lines.{lines_of}
use Rattle.lists.specs.Rows.{rows_of}
use Rattle.lists.specs.RowsLaws.{length-rows}
use Rattle.rules.specs.Numbers.{ceiling}
use Rattle.rules.specs.Tables.{Request, Table, reserved, limited, settings_of}
use Rattle.rules.specs.declared.Settings.{Settings}
use Rattle.rules.specs.Choice.{room}
use Rattle.rules.specs.Chosen.{blank, at}
use Rattle.rules.specs.Waking.{ready_at, ready_in, wake}
use Rattle.rules.specs.declared.Gate.{Gate}
use Rattle.table.specs.Columns.{guest_wide, waiting_wide, GUEST, RTAG, LTAG, STAG, most_guests, most_capacity}
use Rattle.table.specs.View.{request_form, flight_form, guests_of, waiting_of, table_of, Known}
use Rattle.table.proofs.Facts.{facts, row_is}
use Rattle.walks.specs.Walks.{Owned, Rising, LimitsFit, ready_by, ready_under, ready_by_tag}
use Rattle.index.specs.Index.{Even}
use Rattle.sends.proofs.Phases.{line_asks, limit_zero}

-- where an unlimited guest's limit tags are 0, the limit is told by the tag
ready_by_tag_lem : (rule : ℕ) (s : Settings) (q : Request) → (limited s ≡ false → q.ltag ≡ 0) → ready_under rule s.reservation q.rtag q.ltag ≡ ready_at rule s q
unfolding ready_at ready_by ready_under
ready_by_tag_lem rule s q zero = go (limited s) refl (reserved s) (eqb rule 2)
  where
    go : (l : Bool) → limited s ≡ l → (r b : Bool)
        → (if b then q.ltag else (if r then min q.ltag q.rtag else q.ltag)) ≡ (if l then (if r && not b then min q.ltag q.rtag else q.ltag) else 0)
    go true e true true = refl
    go true e true false = refl
    go true e false true = refl
    go true e false false = refl
    go false e r true = zero e
    go false e true false = omega (arith, zero e)
    go false e false false = zero e

-- whether a list has no entry is told by its length
some_left : (l : List Request) → 0 < length l → empty l ≡ false
some_left [] h = absurd (omega arith)
some_left (q ∷ l) h = refl

none_left : (l : List Request) → length l ≡ 0 → empty l ≡ true
none_left [] h = refl
none_left (q ∷ l) h = absurd (omega arith)

-- THE WALK, of a gate that some flight table makes known

module _ (g : Gate) (gs ws : List ℕ) (k : (fs : List ℕ) × Known g gs ws fs) where
  -- what it asks
  pub wake_asks : 0 < g.waiting
      → ((0 < g.waiting) × (g.waiting ≤ most_capacity) × (g.waiting * waiting_wide ≤ length ws) × (g.guests ≤ most_guests) × (g.guests * guest_wide ≤ length gs))
      × ((Owned ws g.waiting g.guests × Rising ws g.waiting × LimitsFit ws g.waiting) × (g.time ≤ ceiling))
  wake_asks some =
      let l = line_asks g gs ws k.0 k.1 in
      let f = facts g gs ws k.0 k.1 in
      ((some, l.0.0, l.0.1, l.0.2, l.0.3), ((l.1.0.0, l.1.0.1, λ j h. omega (arith, (f.lawfuls j h).limit, ap Request.ltag (row_is g gs ws k.0 k.1 j h))), l.1.1))

  -- whatever is in flight
  module _ (fs : List ℕ) where
    abbrev t : Table
    t = table_of g gs ws fs

    -- no place is free
    pub wake-full : g.setup.depth ≤ g.flight → None ≡ wake t
    unfolding wake room
    wake-full h = rw (length-rows flight_form fs g.flight, le-ltb g.flight g.setup.depth h)

    -- nothing waits
    pub wake_dry : g.waiting ≡ 0 → None ≡ wake t
    unfolding wake
    wake_dry h = rw (none_left t.waiting (length-rows request_form ws g.waiting ∙ h)) (elim (room t) as (λ b. None ≡ (if b && false then Some (max t.time (lowest (map (ready_in t.setup.rule t.guests) t.waiting))) else None)) [ true ↦ refl | false ↦ refl ])

    -- else what the walk finds
    pub wake-found : g.flight < g.setup.depth → 0 < g.waiting → (r : ℕ) → r ≡ max g.time (lowest (map (ready_by_tag g.setup.rule (guests_of gs g.guests)) (waiting_of ws g.waiting))) → Some r ≡ wake t
    unfolding wake room
    wake-found h some found e =
        let r = g.setup.rule in
        let same : map (ready_by_tag r t.guests) t.waiting ≡ map (ready_in r t.guests) t.waiting =
        map_places (ready_by_tag r t.guests) (ready_in r t.guests) t.waiting blank (λ j i. ready_by_tag_lem r (settings_of t.guests (at t.waiting j)) (at t.waiting j) (limit_zero g gs ws k.0 k.1 j i)) in
        rw (length-rows flight_form fs g.flight, lt-ltb g.flight g.setup.depth h, some_left t.waiting (omega (arith, length-rows request_form ws g.waiting)))
        (ap Some (e ∙ ap (λ (l : List ℕ). max g.time (lowest l)) same))

-- ROWS THAT ARE LENT FROM ELSEWHERE

module _ (n : ℕ) (ws vs : List ℕ) (e : Even ws vs) where
  -- where every number is the same, so is every request
  pub rows-even : waiting_of vs n ≡ waiting_of ws n
  unfolding rows_of lines_of
  rows-even = λ i. map request_form.read (tab n (λ k. tab waiting_wide (λ j. sym (e (k * waiting_wide + j)) i)))

  -- and all that the walk asks of the rows
  pub even_asks : {m : ℕ} → Owned ws n m × Rising ws n × LimitsFit ws n → Owned vs n m × Rising vs n × LimitsFit vs n
  even_asks a = (
    λ k h. rw (sym (e (k * waiting_wide + GUEST))) (a.0 k h),
    λ j k l h own.
        let r = a.1 j k l h (e (j * waiting_wide + GUEST) ∙ own ∙ sym (e (k * waiting_wide + GUEST))) in
        rw (sym (e (j * waiting_wide + RTAG)), sym (e (k * waiting_wide + RTAG)), sym (e (j * waiting_wide + LTAG)), sym (e (k * waiting_wide + LTAG)), sym (e (j * waiting_wide + STAG)), sym (e (k * waiting_wide + STAG))) r,
    λ k h. rw (sym (e (k * waiting_wide + LTAG))) (a.2 k h),
  )
