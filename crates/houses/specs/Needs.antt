-- The places of what is lent that m arrays, n guests, a capacity c and a depth d need, and those beyond: "Places beyond what the settings need are neither read nor
-- changed, at opening too." Of the counters m times n rows are needed, of the phases as many as the depth.
use Rattle.std.specs.Prelude.{ℕ, ◌*◌, ◌≡◌, List, length, take, drop}
use Rattle.gate.specs.Promise.{numbers}
use Rattle.gate.specs.Needs.{Beyond, Alike}
use Rattle.arrays.specs.Counters.{counter_wide}
use Rattle.arrays.specs.Promise.{HandedAt}

-- a call left what stands beyond as it was: all that is lent is as long as before, and holds the same past what is needed
pub record BeyondAt (m n c d : ℕ) (gs ws fs cs ps : List ℕ) (h : HandedAt) : Type 0 where
  pub tables : Beyond numbers n c d gs ws fs (h.0, h.1, h.2, h.3)
  pub counter_length : length h.4 ≡ length cs
  pub phase_length : length h.5 ≡ length ps
  pub counters : drop (m * n * counter_wide) h.4 ≡ drop (m * n * counter_wide) cs
  pub phases : drop d h.5 ≡ drop d ps

-- two sets of what is lent differ at most in what stands beyond
pub record AlikeAt (m n c d : ℕ) (gs ws fs cs ps hs vs es bs qs : List ℕ) : Type 0 where
  pub tables : Alike numbers n c d gs ws fs hs vs es
  pub counters : take (m * n * counter_wide) cs ≡ take (m * n * counter_wide) bs
  pub phases : take d ps ≡ take d qs

-- two calls gave the same outcome, and the same at every place needed
pub record SameAt (m n c d : ℕ) (h k : HandedAt) : Type 0 where
  pub outcome : h.0 ≡ k.0
  pub needed : AlikeAt m n c d h.1 h.2 h.3 h.4 h.5 k.1 k.2 k.3 k.4 k.5
