-- A step leaves what was chosen at opening: depth, capacity and rule, the number of guests and every guest's settings. Assumes nothing.
use mathlib.Core.Path.{◌≡◌, refl, sym, ap, ◌∙◌}
use mathlib.Core.Bool.{Bool, true, false}
use mathlib.Core.List.{List, [], ◌∷◌, map}
use Prim.Native.Nat.{ℕ}
use lib.ListN.{length, get_or, length-map, get_or-map}
use lib.Seq.{map-set_same}
use Rattle.lists.specs.Words.{if◌then◌else◌, all}
use Rattle.lists.specs.WordsLaws.{all_of_map, map_each}
use Rattle.rules.specs.Tables.{Settings, Guest, Request, Setup, Table, nobodys, owner, idle}
use Rattle.rules.specs.Sound.{settled, ranges, ruled}
use Rattle.rules.specs.Choice.{sending, next_of, renewed, dropped, choice}
use Rattle.rules.specs.Events.{Event, Arrival, Completion, Tick, smallest, shifted_next, adjusted, following, placed, stamped_for, arrive_as, arrive, complete, wait, enter}
use Rattle.rules.specs.Refusals.{Verdict, accept, refuse, verdict}
use Rattle.rules.specs.Run.{decided, step, after}
use Rattle.rules.proofs.Cases.{choice_by}

-- what was chosen at opening is the same in both tables
pub record SameSettings (u t : Table) : Type 0 where
  pub setup : u.setup ≡ t.setup
  pub settings : map Guest.settings u.guests ≡ map Guest.settings t.guests

-- a table and itself
pub same-settings : (t : Table) → SameSettings t t
same-settings t = record { setup = refl; settings = refl }

-- by way of a third table
through : {u v t : Table} → SameSettings u v → SameSettings v t → SameSettings u t
through a b = record { setup = a.setup ∙ b.setup; settings = a.settings ∙ b.settings }

module _ (u t : Table) (s : SameSettings u t) where
  -- the number of guests
  pub same_count : length u.guests ≡ length t.guests
  same_count = sym (length-map u.guests Guest.settings) ∙ ap length s.settings ∙ length-map t.guests Guest.settings

  -- the settings of guest g
  pub same-owner : (g : ℕ) → (owner u.guests g).settings ≡ (owner t.guests g).settings
  same-owner g =
      sym (get_or-map Guest.settings u.guests g nobodys)
      ∙ ap (λ (l : List Settings). get_or l g nobodys.settings) s.settings
      ∙ get_or-map Guest.settings t.guests g nobodys

  -- so "settings lie in the ranges" in both or in neither
  pub same-ranges : ranges u ≡ ranges t
  unfolding ranges
  same-ranges =
      let each : all (λ h. settled h.settings) u.guests ≡ all (λ h. settled h.settings) t.guests =
      sym (all_of_map settled Guest.settings u.guests) ∙ ap (all settled) s.settings ∙ all_of_map settled Guest.settings t.guests
      in
      rw (s.setup, same_count, each)

  -- and so with the rule
  pub same_rule : ruled u.setup.rule ≡ ruled t.setup.rule
  same_rule = ap (λ (p : Setup). ruled p.rule) s.setup

-- THE PARTS OF A STEP

-- a send
pub sending-settings : (t : Table) (q : Request) (w : List Request) → SameSettings (sending t q w) t
unfolding sending
sending-settings t q w = record { setup = refl; settings = refl }

-- a drop
pub dropped-settings : (q : Request) (t : Table) → SameSettings (dropped q t) t
unfolding dropped renewed
dropped-settings q t =
    record { setup = refl; settings = map-set_same Guest.settings t.guests q.guest (renewed (next_of t q) (owner t.guests q.guest)) nobodys refl }

-- the placing of a request
pub placed-settings : (now : ℕ) (q : Request) (t : Table) → SameSettings (placed now q t) t
unfolding placed following
placed-settings now q t =
    record { setup = refl; settings = map-set_same Guest.settings t.guests q.guest (following q (owner t.guests q.guest)) nobodys refl }

-- the settling of the shares
pub adjusted-settings : (b : Bool) (now : ℕ) (t : Table) → SameSettings (adjusted b now t) t
unfolding adjusted shifted_next
adjusted-settings false now t = same-settings t
adjusted-settings true now t =
    record {
      setup = refl;
      settings = map_each Guest.settings (λ i h. if idle t i then h else shifted_next now (smallest t) h)
          (λ i h. elim (idle t i) as (λ b. (if b then h else shifted_next now (smallest t) h).settings ≡ h.settings) [ true ↦ refl | false ↦ refl ])
          0 t.guests;
    }

-- the choice
pub choice-settings : (t : Table) → SameSettings (choice t).table t
choice-settings t =
    choice_by (λ r. SameSettings r.table t) t (same-settings t)
    (λ p v f e. sending-settings t p v)
    (λ p v f n e. through (dropped-settings p (sending t p v)) (sending-settings t p v))

-- what an event does before the choice
pub enter-settings : (t : Table) (e : Event) → SameSettings (enter t e) t
unfolding enter arrive arrive_as complete wait
enter-settings t (Arrival a now) =
    let b = idle t a.guest in
    let q = stamped_for b now a t in
    through (placed-settings now q (adjusted b now t)) (adjusted-settings b now t)
enter-settings t (Completion f now) = record { setup = refl; settings = refl }
enter-settings t (Tick now) = record { setup = refl; settings = refl }

-- what follows from a verdict
decided-settings : (v : Verdict) (t : Table) (e : Event) → SameSettings (decided v t e).table t
unfolding decided
decided-settings accept t e = through (choice-settings (enter t e)) (enter-settings t e)
decided-settings (refuse r) t e = same-settings t

-- A step leaves depth, capacity and rule, the number of guests and every guest's settings.
pub step-settings : (t : Table) (e : Event) → SameSettings (step t e).table t
unfolding step
step-settings t e = decided-settings (verdict t e) t e

-- And so does any run of events.
pub run-settings : (es : List Event) (t : Table) → SameSettings (after t es) t
unfolding after
run-settings [] t = same-settings t
run-settings (e ∷ es) t = through (run-settings es (step t e).table) (step-settings t e)
