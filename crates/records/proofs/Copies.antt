-- The records in use as the numbers that a call over numbers is handed, and back from the numbers that it leaves. Assumes nothing.
use Prim.Native.Nat.{ℕ, ◌*◌, ◌≤◌}
use mathlib.Core.Path.{◌≡◌, sym, ap, ◌∙◌}
use mathlib.Core.List.{List, ◌++◌}
use native.Mathlib.Omega.{arith}
use lib.ListN.{length, get_or, take, drop, replicate, length-replicate, length-append, length-drop, take-append-drop}
use lib.Seq.{length-take-le, take-append-le, take-take, get_or-take}
use Rattle.lists.specs.Tab.{is_tab}
use Rattle.lists.specs.Rows.{rows_of, over_rows}
use Rattle.lists.specs.RowsLaws.{length-rows, length-over-rows, rows-over}
use Rattle.lists.specs.AlikeLaws.{alike_rows}
use Rattle.rules.specs.declared.Guest.{Guest}
use Rattle.table.specs.Columns.{guest_wide, guests_long}
use Rattle.table.specs.View.{guest_form, guests_of}
use Rattle.table.specs.ViewLaws.{guest_exact}
use Rattle.packs.specs.Records.{blank, in_use}
use Rattle.lent.proofs.Copying.{unpacked, length-unpacked}
use Rattle.gate.specs.Promise.{numbers, HandedIn}
use Rattle.records.specs.Promise.{guests_in, over_records, records}

-- the first n records, where so many are lent, show the first n guests
guests_first : (rs : List Guest) (n : ℕ) → n ≤ length rs → take n rs ≡ guests_in rs n
unfolding guests_in
guests_first rs n le = sym (is_tab blank n (λ k. get_or rs k blank) (take n rs) (length-take-le n rs le) (λ k l. sym (get_or-take n rs k blank l)))

module _ (n : ℕ) (rs : List Guest) where
  -- how many records are in use
  abbrev pub count : ℕ
  count = in_use n (length rs)

  -- the local array once the records in use are in it, and the part of it that the call over numbers is handed
  abbrev pub rows : List ℕ
  rows = unpacked guest_form guest_exact blank rs (replicate guests_long 0) count

  abbrev pub part : List ℕ
  part = take (count * guest_wide) rows

  -- the array once the call has left ys in that part, and the records then
  abbrev pub left : List ℕ → List ℕ
  left ys = ys ++ drop (count * guest_wide) rows

  abbrev pub brought : List ℕ → List Guest
  brought zs = rows_of guest_form zs count ++ drop count rs

  -- what a call over records hands back, from what the call over numbers does
  abbrev pub homed : HandedIn numbers → HandedIn records
  homed h = (h.0, brought (left h.1), h.2, h.3)

  pub count-lent : count ≤ length rs
  count-lent = omega arith

  pub count_room : count * guest_wide ≤ guests_long
  count_room = omega arith

  pub length-all : length rows ≡ guests_long
  length-all = length-unpacked guest_form guest_exact blank rs (replicate guests_long 0) count ∙ length-replicate {A = ℕ} guests_long 0

  pub length_part : length part ≡ count * guest_wide
  length_part = length-take-le (count * guest_wide) rows (omega (arith, count_room, length-all))

  pub length-brought : (zs : List ℕ) → length (brought zs) ≡ length rs
  length-brought zs = omega (arith, length-append (rows_of guest_form zs count) (drop count rs), length-rows guest_form zs count, length-drop count rs, count-lent)

  -- the records that the array holds
  held : rows_of guest_form rows count ≡ take count rs
  held =
      let size : length (take count rs) ≡ count = length-take-le count rs count-lent in
      ap (rows_of guest_form rows) (sym size)
      ∙ rows-over guest_form guest_exact count (take count rs) (replicate guests_long 0) (omega (arith, count_room, length-replicate {A = ℕ} guests_long 0)) (omega (arith, size))

  -- what is handed back untouched is the slice as it was
  pub kept : brought (left part) ≡ rs
  kept =
      ap brought (take-append-drop (count * guest_wide) rows)
      ∙ ap (λ (l : List Guest). l ++ drop count rs) held ∙ take-append-drop count rs

  module _ (all : count ≡ n) where
    -- where as many records are in use as there are guests, the numbers show the same guests
    pub same_guests : guests_of part n ≡ guests_in rs n
    same_guests =
        ap (rows_of guest_form part) (sym all)
        ∙ alike_rows guest_form count part rows (take-take (count * guest_wide) (count * guest_wide) rows (omega arith)) ∙ held
        ∙ ap (λ (m : ℕ). take m rs) all ∙ guests_first rs n (omega (arith, all, count-lent))

    -- and guests written over the numbers come back as records
    pub same-records : (hs : List Guest) → length hs ≡ n → brought (left (over_rows guest_form (length hs) hs part)) ≡ over_records hs rs
    same-records hs size =
        ap (λ (l : List Guest). l ++ drop count rs)
        (alike_rows guest_form count (left ys) ys (take-append-le (count * guest_wide) ys (drop (count * guest_wide) rows) (omega (arith, long)))
        ∙ ap (rows_of guest_form ys) (all ∙ sym size)
        ∙ rows-over guest_form guest_exact (length hs) hs part (omega (arith, length_part, all, size)) (omega arith))
        ∙ ap (λ (m : ℕ). hs ++ drop m rs) (all ∙ sym size)
      where
        ys : List ℕ
        ys = over_rows guest_form (length hs) hs part

        long : length ys ≡ count * guest_wide
        long = length-over-rows guest_form guest_exact (length hs) hs part ∙ length_part
