-- The places of the lent tables that n guests, a capacity c and a depth d need, and those beyond: "Places beyond what the settings need are
-- neither read nor changed, at opening too." Stated for every way in which guests are lent.
use Rattle.std.specs.Prelude.{ℕ, ◌*◌, ◌≡◌, List, length, take, drop}
use Rattle.table.specs.Columns.{waiting_wide, flight_wide}
use Rattle.gate.specs.Promise.{Lending, HandedIn}

module _ (v : Lending) where
  -- a call left what stands beyond as it was: the tables are as long as before, and hold the same past what is needed
  pub record Beyond (n c d : ℕ) (gs : List v.Cell) (ws fs : List ℕ) (h : HandedIn v) : Type 0 where
    pub guest-length : length h.1 ≡ length gs
    pub waiting-length : length h.2 ≡ length ws
    pub flight_length : length h.3 ≡ length fs
    pub guests : drop (v.needs n) h.1 ≡ drop (v.needs n) gs
    pub waiting : drop (c * waiting_wide) h.2 ≡ drop (c * waiting_wide) ws
    pub flight : drop (d * flight_wide) h.3 ≡ drop (d * flight_wide) fs

  -- two sets of lent tables differ at most in what stands beyond. Where one is too short the other is the same list: then nothing stands beyond.
  pub record Alike (n c d : ℕ) (gs : List v.Cell) (ws fs : List ℕ) (hs : List v.Cell) (vs es : List ℕ) : Type 0 where
    pub guests : take (v.needs n) gs ≡ take (v.needs n) hs
    pub waiting : take (c * waiting_wide) ws ≡ take (c * waiting_wide) vs
    pub flight : take (d * flight_wide) fs ≡ take (d * flight_wide) es

  -- two calls gave the same outcome, and the same at every place needed
  pub record Same (n c d : ℕ) (h k : HandedIn v) : Type 0 where
    pub outcome : h.0 ≡ k.0
    pub needed : Alike n c d h.1 h.2 h.3 k.1 k.2 k.3
