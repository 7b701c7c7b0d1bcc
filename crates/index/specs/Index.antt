-- The index over the waiting rows: for each guest where its first and its last row stand, and for each row where the next one of its guest stands. It says nothing
-- that the rows do not say, and of the rows only the guests matter. A place k is written as k + 1; 0 says that there is none.
use Rattle.std.specs.Prelude.{ℕ, zero, suc, ◌+◌, ◌-◌, ◌*◌, ◌≤◌, ◌<◌, ◌≡◌, List, ltb, length, get_or, if◌then◌else◌}
use Rattle.lists.specs.Parts.{closed}
use Rattle.rules.specs.declared.Gate.{Gate}
use Rattle.rules.specs.declared.Answer.{Answer}
use Rattle.rules.specs.declared.Answer.TheVariants.{Sent, Nothing, Refused}
use Rattle.table.specs.Columns.{GUEST, waiting_wide, most_guests, most_capacity, waiting_at}

-- WHERE ITS NUMBERS STAND: the first rows of the guests, then their last rows, then the next rows

-- where the last rows of the guests begin
abbrev pub LASTS : ℕ
LASTS = 64

-- where the next rows begin
abbrev pub NEXTS : ℕ
NEXTS = 128

-- how many numbers an index has
abbrev pub index_wide : ℕ
index_wide = 1152

-- the number of the first row of guest g
abbrev pub first_at : List ℕ → (g : ℕ) → ℕ
first_at ix g = get_or ix g 0

-- the number of its last row
abbrev pub last_at : List ℕ → (g : ℕ) → ℕ
last_at ix g = get_or ix (LASTS + g) 0

-- the number of the row that is next to row k
abbrev pub next_at : List ℕ → (k : ℕ) → ℕ
next_at ix k = get_or ix (NEXTS + k) 0

-- WHAT THEY SAY OF THE ROWS

-- whose row k is
abbrev pub owner_of : List ℕ → (k : ℕ) → ℕ
owner_of ws k = waiting_at ws k GUEST

-- no row from `from` on, and before `upto`, is guest g's
abbrev pub NoRow : List ℕ → (g from upto : ℕ) → Type 0
NoRow ws g from upto = (j : ℕ) → from ≤ j → j < upto → owner_of ws j ≡ g → ⊥

-- of the rows from `from` on, row k is the first of guest g
pub record Head (ws : List ℕ) (g from k : ℕ) : Type 0 where
  pub low : from ≤ k
  pub own : owner_of ws k ≡ g
  pub before : NoRow ws g from k

-- of the first n rows, row k is the last of guest g
pub record Tail (ws : List ℕ) (g n k : ℕ) : Type 0 where
  pub inside : k < n
  pub own : owner_of ws k ≡ g
  pub behind : NoRow ws g (k + 1) n

-- x says which of the rows from `from` on, and before n, is the first of guest g
pub record Leads (ws : List ℕ) (g from n x : ℕ) : Type 0 where
  pub none : x ≡ 0 → NoRow ws g from n
  pub some : (k : ℕ) → x ≡ k + 1 → (k < n) × Head ws g from k

-- x says which of the first n rows is the last of guest g
pub record Trails (ws : List ℕ) (g n x : ℕ) : Type 0 where
  pub none : x ≡ 0 → NoRow ws g 0 n
  pub some : (k : ℕ) → x ≡ k + 1 → Tail ws g n k

-- ix is the index over the first `count` rows of ws
pub record Indexed (ws ix : List ℕ) (count : ℕ) : Type 0 where
  pub long : length ix ≡ index_wide
  pub few : count ≤ most_capacity
  pub owned : (k : ℕ) → k < count → owner_of ws k < most_guests
  pub first : (g : ℕ) → g < most_guests → Leads ws g 0 count (first_at ix g)
  pub last : (g : ℕ) → g < most_guests → Trails ws g count (last_at ix g)
  pub next : (k : ℕ) → k < count → Leads ws (owner_of ws k) (k + 1) count (next_at ix k)

-- ix has no number, and there is no index; or it is the index
abbrev pub Beside : (ws ix : List ℕ) (count : ℕ) → Type 0
Beside ws ix count = 0 < length ix → Indexed ws ix count

-- WHAT BECOMES OF THE ROWS

-- the first n rows of both have the same guests
abbrev pub Alike : (ws ws' : List ℕ) (n : ℕ) → Type 0
Alike ws ws' n = (k : ℕ) → k < n → owner_of ws' k ≡ owner_of ws k

-- in ws' a row of guest g stands behind the first n rows of ws
pub record Gains (ws ws' : List ℕ) (n g : ℕ) : Type 0 where
  pub same : Alike ws ws' n
  pub own : owner_of ws' n ≡ g

-- in ws' the first n rows of ws stand, without the one at place
pub record Loses (ws ws' : List ℕ) (n place : ℕ) : Type 0 where
  pub same : Alike ws ws' place
  pub moved : (k : ℕ) → place ≤ k → k + 1 < n → owner_of ws' k ≡ owner_of ws (k + 1)

-- WHERE THE ROWS STAND

-- the same number at every place, and zeros where one list is longer
abbrev pub Even : (xs ys : List ℕ) → Type 0
Even xs ys = (i : ℕ) → get_or xs i 0 ≡ get_or ys i 0

-- the table after a send that left ws: with an index the rows before the one that went have closed up to those behind, and it stands a row further back, with zeros at
-- its end; without one it stands where it stood
unfoldable pub stood : (ix ws : List ℕ) → List ℕ
stood ix ws = if ltb 0 (length ix) then closed waiting_wide ws else ws

-- the table after an event with this answer
unfoldable pub stands : (ix : List ℕ) → Answer → List ℕ → List ℕ
stands ix (Sent p g i) ws = stood ix ws
stands ix Nothing ws = ws
stands ix (Refused r) ws = ws

-- the same told by how many rows further back it stands
abbrev pub shifted : (n : ℕ) → List ℕ → List ℕ
shifted zero ws = ws
shifted (suc n) ws = closed waiting_wide ws

-- beside an index the waiting table is lent with just as many places as the gate has
abbrev pub Snug : Gate → (ws ix : List ℕ) → Type 0
Snug g ws ix = 0 < length ix → length ws ≡ g.setup.capacity * waiting_wide

-- WHAT BECOMES OF THE NUMBERS

-- a place behind the one whose number is `mark` falls by one
unfoldable pub fallen : (mark x : ℕ) → ℕ
fallen mark x = if ltb mark x then x - 1 else x

-- xs' is xs with value j at each j from `from` on and before `upto`
pub record Rewritten (value : ℕ → ℕ) (xs xs' : List ℕ) (from upto : ℕ) : Type 0 where
  pub done : (j : ℕ) → from ≤ j → j < upto → get_or xs' j 0 ≡ value j
  pub front : (j : ℕ) → j < from → get_or xs' j 0 ≡ get_or xs j 0
  pub back : (j : ℕ) → upto ≤ j → get_or xs' j 0 ≡ get_or xs j 0
