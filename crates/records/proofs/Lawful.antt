-- Records are lent by the laws of lending: so every theorem of crates/gate/proofs that is stated for a way of lending holds of the calls over
-- records. Assumes nothing.
use Prim.Native.Nat.{ℕ}
use mathlib.Core.Path.{◌≡◌, sym, ap, ◌∙◌}
use mathlib.Core.List.{List}
use native.Mathlib.Omega.{arith}
use lib.ListN.{length, get_or, take, drop, length-append, length-drop}
use lib.Seq.{take_at, drop_at, get_or-take}
use Rattle.lists.specs.Tab.{tab_ext, length-tab, is_tab}
use Rattle.rules.specs.declared.Guest.{Guest}
use Rattle.gate.proofs.Lending.{Lawful}
use Rattle.packs.specs.Records.{blank}
use Rattle.records.specs.Promise.{guests_in, over_records, records}

-- as many guests as are asked for
counts : (rs : List Guest) (n : ℕ) → length (guests_in rs n) ≡ n
unfolding guests_in
counts rs n = length-tab n (λ k. get_or rs k blank)

-- the same first records show the same guests
reads : (n : ℕ) (rs os : List Guest) → take n rs ≡ take n os → guests_in rs n ≡ guests_in os n
unfolding guests_in
reads n rs os e =
    tab_ext n (λ k. get_or rs k blank) (λ k. get_or os k blank)
    (λ k l. sym (get_or-take n rs k blank l) ∙ ap (λ (x : List Guest). get_or x k blank) e ∙ get_or-take n os k blank l)

-- guests that are written stand first, and are shown
first : (hs rs : List Guest) → take (length hs) (over_records hs rs) ≡ hs
first hs rs = take_at hs (drop (length hs) rs) (length hs) (λ _. length hs)

shown : (hs rs : List Guest) → guests_in (over_records hs rs) (length hs) ≡ hs
unfolding guests_in
shown hs rs =
    is_tab blank (length hs) (λ k. get_or (over_records hs rs) k blank) hs (λ _. length hs)
    (λ k l. sym (get_or-take (length hs) (over_records hs rs) k blank l) ∙ ap (λ (x : List Guest). get_or x k blank) (first hs rs))

pub records-lawful : Lawful records
records-lawful = record {
  counts = counts;
  reads = reads;
  writes = λ hs rs os e. first hs rs ∙ sym (first hs os);
  keeps = λ hs rs room. omega (arith, room, length-append hs (drop (length hs) rs), length-drop (length hs) rs);
  beyond = λ hs rs room. drop_at hs (drop (length hs) rs) (length hs) (λ _. length hs);
  shown = λ hs rs room. shown hs rs;
}
