-- The settling of the shares, by the numbers: every waiting share tag moves, and the next share number of every guest with something waiting.
use Rattle.std.specs.Prelude.{ℕ, ◌+◌, ◌-◌, ◌*◌, ◌≤◌, ◌<◌, ◌≡◌, Bool, false, List, get_or, if◌then◌else◌}
use Rattle.lists.specs.Stores.{stores}
use Rattle.table.specs.Columns.{SNEXT, guest_wide, STAG, waiting_wide, most_guests, guest_at}
use Rattle.walks.specs.Survey.{idle_in, tag_of}

-- a number that moves by time − m and stays one of 64 bits on the way
pub record Movable (time m x : ℕ) : Type 0 where
  pub low : m ≤ x
  pub high : x + time < 18446744073709551616

-- the next share number of guest k
abbrev pub next_of : List ℕ → ℕ → ℕ
next_of gs k = guest_at gs k SNEXT

-- the share tag of every waiting row can move
abbrev pub TagsMove : (time m : ℕ) → List ℕ → (count : ℕ) → Type 0
TagsMove time m ws count = (k : ℕ) → k < count → Movable time m (tag_of ws k)

-- the next share number of every guest of the first n that is not idle can move
abbrev pub NextsMove : (time m : ℕ) → (idle : ℕ → Bool) → List ℕ → (n : ℕ) → Type 0
NextsMove time m idle gs n = (g : ℕ) → g < n → idle g ≡ false → Movable time m (next_of gs g)

-- beside what stood in the marks before, a 1 for every guest of the most there may be of which something stands in the first n rows
abbrev pub Marked : List ℕ → (n : ℕ) → (before marks : List ℕ) → Type 0
Marked ws n before marks = (g : ℕ) → g < most_guests → get_or marks g 0 ≡ (if idle_in ws n g then get_or before g 0 else 1)

-- the waiting numbers after the tags of the first n rows have moved
abbrev pub moved_tags : (time m : ℕ) → List ℕ → (n : ℕ) → List ℕ
moved_tags time m ws n = stores (λ k. k * waiting_wide + STAG) (λ k. tag_of ws k + time - m) n ws

-- a number that moves unless the guest is idle
abbrev pub moved_unless : (idle : Bool) (time m x : ℕ) → ℕ
moved_unless idle time m x = if idle then x else x + time - m

-- the guests' numbers after the next share numbers of those of the first n that are not idle have moved
abbrev pub moved_nexts : (time m : ℕ) → (ℕ → Bool) → List ℕ → (n : ℕ) → List ℕ
moved_nexts time m idle gs n = stores (λ k. k * guest_wide + SNEXT) (λ k. moved_unless (idle k) time m (next_of gs k)) n gs
