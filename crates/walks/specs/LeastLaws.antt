-- Two tests that pick the same: what lets a walk read less than the definition of the choice does. Assumes nothing.
use Rattle.std.specs.Prelude.{ℕ, suc, ◌<◌, ◌≡◌, refl, Bool, true, false, not, ◌||◌, List, [], ◌∷◌, leb, length}
use Rattle.std.proofs.Common.{sym, arith, le-leb}
use Rattle.rules.specs.Tables.{Request, limited}
use Rattle.rules.specs.declared.Settings.{Settings}
use Rattle.rules.specs.Choice.{least, open_at}
use Rattle.rules.specs.Chosen.{at}

-- tests that agree on every entry of the list give the same pick
pub least_ext : (f g : Request → Bool) (tag : Request → ℕ) (l : List Request) → ((k : ℕ) → k < length l → f (at l k) ≡ g (at l k)) → least f tag l ≡ least g tag l
least_ext f g tag [] h = refl
least_ext f g tag (q ∷ l) h = rw (h 0 (omega arith), least_ext f g tag l (λ k i. h (suc k) (omega arith)))

-- where an unlimited guest's limit tags are 0, a request is open exactly if its limit tag is at or before the time
pub open_by_tag : (s : Settings) (now : ℕ) (q : Request) → (limited s ≡ false → q.ltag ≡ 0) → open_at s now q ≡ leb q.ltag now
unfolding open_at
open_by_tag s now q zero = go (limited s) refl
  where
    go : (b : Bool) → limited s ≡ b → (not b || leb q.ltag now) ≡ leb q.ltag now
    go true e = refl
    go false e = sym (rw (zero e) (le-leb 0 now (omega arith)))
