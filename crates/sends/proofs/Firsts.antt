-- A request that is the first of its guest may go. What either phase picks is such a one. Assumes nothing.
use Rattle.std.specs.Prelude.{Some}
use Prim.Native.Nat.{ℕ, zero, suc, ◌<◌}
use mathlib.Core.Path.{refl, ap}
use mathlib.Core.List.{List, [], ◌∷◌}
use native.Mathlib.Omega.{arith}
use lib.ListN.{length}
use Rattle.lists.specs.Tab.{remove_at}
use Rattle.rules.specs.Tables.{Request, Table}
use Rattle.rules.specs.Choice.{due, open?}
use Rattle.rules.specs.Chosen.{at}
use Rattle.rules.proofs.Facts.{Sound}
use Rattle.rules.proofs.Picks.{Between, Goes, due-goes, open_goes}
use Rattle.walks.specs.Walks.{Picks}
use Rattle.sends.specs.Firsts.{FirstOf}

-- the request at a place stands between those before and those after it
between : (w : List Request) (i : ℕ) → i < length w → Between (at w i) (remove_at i w) w
between [] i h = absurd (omega arith)
between (q ∷ w) zero h = record { before = []; after = w; stood = refl; stay = refl }
between (q ∷ w) (suc i) h =
    let b = between w i (omega arith) in
    record { before = q ∷ b.before; after = b.after; stood = ap (q ∷◌) b.stood; stay = ap (q ∷◌) b.stay }

module _ (t : Table) (place : ℕ) where
  -- it may go where it is the first of its guest
  pub first_goes : place < length t.waiting → FirstOf t.waiting place → Goes t (at t.waiting place) (remove_at place t.waiting)
  first_goes here h = record { split = between t.waiting place here; first = h }

  -- what the reservation phase picks is the first of its guest
  pub due-first : Sound t → Picks (due t) Request.rtag t.waiting (Some place) → FirstOf t.waiting place
  due-first s p = (due-goes t s (at t.waiting place) (remove_at place t.waiting) p.pick).first

  -- what the weight phase picks is the first of its guest
  pub open_first : Sound t → Picks (open? t) Request.stag t.waiting (Some place) → FirstOf t.waiting place
  open_first s p = (open_goes t s (at t.waiting place) (remove_at place t.waiting) p.pick).first
