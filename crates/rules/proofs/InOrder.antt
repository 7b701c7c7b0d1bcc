-- "Requests of one guest always leave in order of acceptance", over any run. Assumes nothing.
use mathlib.Core.Path.{◌≡◌, refl, sym, ap, ◌∙◌}
use mathlib.Core.Bool.{Bool, true, false}
use mathlib.Core.List.{List, [], ◌∷◌, ◌++◌, map, append-nil, append_assoc}
use Prim.Native.Nat.{ℕ}
use lib.Dec.{eqb}
use Rattle.lists.specs.Words.{if◌then◌else◌}
use Rattle.lists.specs.WordsLaws.{map-append, map_same, filter_map, filter-append}
use Rattle.rules.specs.Tables.{Guest, Request, Table, owner, of, mine, idle}
use Rattle.rules.specs.Choice.{Result, sending, choice}
use Rattle.rules.specs.Events.{Arriving, Event, Arrival, Completion, Tick, smallest, shifted, adjusted, stamped, raised, placed, arrive_as, arrive, complete, wait, enter}
use Rattle.rules.specs.Refusals.{Verdict, accept, refuse, is_accept, verdict, accepted}
use Rattle.rules.specs.Run.{decided, step, after, answers}
use Rattle.rules.specs.Order.{waits, brings, sends, came, left}
use Rattle.rules.proofs.Facts.{Sound}
use Rattle.rules.proofs.Picks.{Goes, due-goes, open_goes}
use Rattle.rules.proofs.Drops.{dropped_ids}
use Rattle.rules.proofs.EnterSound.{enter-sound}
use Rattle.rules.proofs.Cases.{choice_by}

-- THE CHOICE

-- of guest g, the id of p and then those of v
ids_cons : (g : ℕ) (p : Request) (v : List Request) → map Request.id (mine g (p ∷ v)) ≡ (if of g p then p.id ∷ [] else []) ++ map Request.id (mine g v)
ids_cons g p v =
    elim (of g p) as (λ b. map Request.id (if b then p ∷ mine g v else mine g v) ≡ (if b then p.id ∷ [] else []) ++ map Request.id (mine g v))
    [ true ↦ refl | false ↦ refl ]

module _ (t : Table) (s : Sound t) (g : ℕ) where
  -- of guest g, what waited before the result is what the answer sends and then what waits after it
  abbrev Leaves : Result → Type 0
  Leaves r = waits g t ≡ sends g r.answer ++ waits g r.table

  -- p goes, if it is of g, and v stays
  sending-waits : (p : Request) (v : List Request) → Goes t p v → waits g t ≡ (if of g p then p.id ∷ [] else []) ++ waits g (sending t p v)
  unfolding sending
  sending-waits p v c = ap (map Request.id) (c.first g) ∙ ids_cons g p v

  -- the choice
  choice-waits : Leaves (choice t)
  choice-waits =
      choice_by Leaves t refl
      (λ p v f e. sending-waits p v (due-goes t s p v e))
      (λ p v f n e. sending-waits p v (open_goes t s p v e) ∙ ap ((if of g p then p.id ∷ [] else []) ++◌) (sym (dropped_ids p (sending t p v) g)))

-- AN EVENT

-- an arrival of g comes last
placed-waits : (g now : ℕ) (b : Bool) (a : Arriving) (h : Guest) (u : Table)
    → waits g (placed now (stamped b now a h) u) ≡ waits g u ++ (if eqb a.guest g then a.id ∷ [] else [])
unfolding placed stamped
placed-waits g now b a h u =
    let q = stamped b now a h in
    ap (map Request.id) (filter-append (of g) u.waiting (q ∷ []))
    ∙ map-append Request.id (mine g u.waiting) (mine g (q ∷ []))
    ∙ ap (waits g u ++◌)
    (elim (eqb a.guest g) as (λ b. map Request.id (if b then q ∷ [] else []) ≡ (if b then a.id ∷ [] else [])) [ true ↦ refl | false ↦ refl ])

-- the settling of the shares leaves who waits
adjusted-waits : (g now : ℕ) (b : Bool) (t : Table) → waits g (adjusted b now t) ≡ waits g t
unfolding adjusted shifted
adjusted-waits g now false t = refl
adjusted-waits g now true t =
    let f = shifted now (smallest t) in
    ap (map Request.id) (filter_map (of g) f (λ q. refl) t.waiting) ∙ map_same Request.id f (λ q. refl) (mine g t.waiting)

-- what an event brings comes last
enter-waits : (g : ℕ) (t : Table) (e : Event) → waits g (enter t e) ≡ waits g t ++ brings g e
unfolding enter arrive arrive_as complete wait
enter-waits g t (Arrival a now) =
    let b = idle t a.guest in
    placed-waits g now b a (raised a (owner t.guests a.guest)) (adjusted b now t) ∙ ap (◌++ brings g (Arrival a now)) (adjusted-waits g now b t)
enter-waits g t (Completion f now) = sym (append-nil (waits g t))
enter-waits g t (Tick now) = sym (append-nil (waits g t))

-- what follows from a verdict
decided-waits : (g : ℕ) (t : Table) (e : Event) (v : Verdict) → verdict t e ≡ v
    → waits g t ++ (if is_accept v then brings g e else []) ≡ sends g (decided v t e).answer ++ waits g (decided v t e).table
unfolding decided
decided-waits g t e accept q = sym (enter-waits g t e) ∙ choice-waits (enter t e) (enter-sound t e (ap is_accept q)) g
decided-waits g t e (refuse r) q = append-nil (waits g t)

-- what waited and what came is what left and what waits
pub step_waits : (g : ℕ) (t : Table) (e : Event)
    → waits g t ++ (if accepted t e then brings g e else []) ≡ sends g (step t e).answer ++ waits g (step t e).table
unfolding step
step_waits g t e = decided-waits g t e (verdict t e) refl

-- Of each guest, over any run from any table: what waited and what was accepted is, in this order, what left and what still waits.
pub in_order_lem : (g : ℕ) (es : List Event) (t : Table) → waits g t ++ came g t es ≡ left g (answers t es) ++ waits g (after t es)
unfolding came answers after
in_order_lem g [] t = append-nil (waits g t)
in_order_lem g (e ∷ es) t =
    let now = if accepted t e then brings g e else [] in
    let u = (step t e).table in
    let sent = sends g (step t e).answer in
    sym (append_assoc (waits g t) now (came g u es))
    ∙ ap (◌++ came g u es) (step_waits g t e)
    ∙ append_assoc sent (waits g u) (came g u es)
    ∙ ap (sent ++◌) (in_order_lem g es u)
    ∙ sym (append_assoc sent (left g (answers u es)) (waits g (after u es)))
