-- DEMAND 3 of the calls: a waiting request whose reservation is due goes by reservation, after exactly those that stand before it, over any run
-- of calls, for every way in which guests are lent. Words in quotes are demand 3's. Assumes nothing.
use Prim.Native.Nat.{ℕ, suc, ◌<◌}
use mathlib.Core.Path.{◌≡◌, refl, sym, ap, ◌∙◌}
use mathlib.Core.Bool.{Bool, true, false, not, ◌&&◌}
use mathlib.Core.List.{List, [], ◌∷◌, ◌++◌, Permᴰ}
use native.Mathlib.Omega.{arith}
use lib.Dec.{ltb}
use lib.ListN.{length, get_or, take, drop}
use lib.Seq.{split_at}
use Rattle.lists.specs.Words.{if◌then◌else◌, all}
use Rattle.lists.specs.WordsLaws.{both, length-without-one}
use Rattle.lists.specs.RowsLaws.{length-rows, row-at}
use Rattle.rules.specs.Tables.{Request, Table, idle, same}
use Rattle.rules.specs.Sound.{sound}
use Rattle.rules.specs.Choice.{room}
use Rattle.rules.specs.Events.{enter, arrive, arrive_as, placed, adjusted, complete, wait}
use Rattle.rules.specs.declared.Event.{Event}
use Rattle.rules.specs.declared.Event.TheVariants.{Arrival, Completion, Tick}
use Rattle.rules.specs.Refusals.{tests, event_tests, accepted}
use Rattle.rules.specs.Run.{step}
use Rattle.turns.specs.Turn.{sorted, finds_room, at_free, sent_by_reservation, InTurn}
use Rattle.turns.specs.TurnAt.{TurnKept}
use Rattle.rules.proofs.Judged.{passed}
use Rattle.rules.proofs.Answered.{step-taken}
use Rattle.turns.proofs.Demand3.{demand_3, demand_3_at}
use Rattle.turns.proofs.TurnAt.{demand_3_places, no_place_no_send}
use Rattle.rules.specs.declared.Answer.TheVariants.{Nothing}
use Rattle.table.specs.View.{request_form, flight_form}
use Rattle.gate.specs.Promise.{Lending}
use Rattle.gate.specs.Calls.{Host, holds, call, shows, firm, narrow, taken, finds, free_replies, standing, due_there, ahead_of}
use Rattle.gate.proofs.Lending.{Lawful}
use Rattle.gate.proofs.Written.{Holds}
use Rattle.gate.proofs.Runs.{firm-holds, holds-firm, holds-sound, call-answers, call-shows, call-holds}

module _ (v : Lending) (lawful : Lawful v) where
  -- THE EVENTS THAT FIND A PLACE FREE

  module _ (h : Host v) where
    abbrev t : Table
    t = shows v h

    flying : length t.flight ≡ h.gate.flight
    flying = length-rows flight_form h.flight h.gate.flight

    -- moving share tags leaves the array
    adjusted_flight : (b : Bool) (now : ℕ) (u : Table) → ((adjusted b now u).flight ≡ u.flight) × ((adjusted b now u).setup ≡ u.setup)
    unfolding adjusted
    adjusted_flight true now u = (refl, refl)
    adjusted_flight false now u = (refl, refl)

    -- an accepted event finds a place free where the gate says so
    finds-room : (e : Event) → accepted t e ≡ true → finds e h.gate ≡ room (enter t e)
    unfolding room enter arrive arrive_as placed complete wait event_tests
    finds-room (Arrival a now) c =
        let d = adjusted_flight (idle t a.guest) now t in
        λ i. ltb (sym (ap length d.0 ∙ flying) i) (sym (ap (λ s. s.depth) d.1) i)
    finds-room (Completion f now) c =
        let l = length-without-one (same f) t.flight (passed (tests false (not (sound t)) t (Completion f now)) c 10) in
        ap (λ (n : ℕ). ltb n h.gate.setup.depth) (omega (arith, l, flying))
    finds-room (Tick now) c = ap (λ (n : ℕ). ltb n h.gate.setup.depth) (sym flying)

    module _ (k : Holds v h) where
      -- a call is accepted and finds a place free exactly where the step does
      free-call : (e : Event) → taken (call v e h).0.answer && finds e h.gate ≡ finds_room t e
      free-call e = ap (λ (b : Bool). b && finds e h.gate) (ap taken (call-answers v lawful h k e) ∙ step-taken t e) ∙ go (accepted t e) refl
        where
          go : (b : Bool) → accepted t e ≡ b → b && finds e h.gate ≡ b && room (enter t e)
          go true c = finds-room e c
          go false c = refl

  -- the calls that find a place free answer what the steps do
  free-run : (es : List Event) (h : Host v) → firm v h ≡ true → all narrow es ≡ true → free_replies v h es ≡ at_free (shows v h) es
  unfolding free_replies at_free
  free-run [] h f n = refl
  free-run (e ∷ es) h f n =
      let c = both (narrow e) (all narrow es) n in
      let k = firm-holds v lawful h f in
      let u = holds v (call v e h) in
      let i : free_replies v u es ≡ at_free (step (shows v h) e).table es = free-run es u (holds-firm v lawful u (call-holds v lawful h k e c.0)) c.1 ∙ ap (λ (x : Table). at_free x es) (call-shows v lawful h k e) in
      λ j. if free-call h k e j then call-answers v lawful h k e j ∷ i j else i j

  -- DEMAND 3

  module _ (h : Host v) (es : List Event) (f : firm v h ≡ true) (n : all narrow es ≡ true) (one : h.gate.setup.rule ≡ 1) (i : ℕ) (here : i < h.gate.waiting) (due : due_there v h i ≡ true) where
    -- the waiting requests: those before place i, the one there, those behind it
    parted : (shows v h).waiting ≡ take i (shows v h).waiting ++ standing v h i ∷ drop (suc i) (shows v h).waiting
    parted =
        split_at (shows v h).waiting i (request_form.read []) (omega (arith, length-rows request_form h.waiting h.gate.waiting))
        ∙ ap (λ (x : Request). take i (shows v h).waiting ++ x ∷ drop (suc i) (shows v h).waiting) (row-at request_form h.waiting h.gate.waiting i here)

    -- under rule 1 "the accepted events that find a place free at the array .. send exactly those k first, then this request at the (k+1)th, each by reservation"
    pub calls_demand_3 : (those : List Request) × (those ≡ sorted (ahead_of v h i)) × Permᴰ those (ahead_of v h i) × (length those ≡ length (ahead_of v h i)) × InTurn those (standing v h i) (free_replies v h es)
    calls_demand_3 =
        let d = demand_3 (shows v h) (take i (shows v h).waiting) (drop (suc i) (shows v h).waiting) (standing v h i) es (holds-sound v lawful h (firm-holds v lawful h f)) one parted due in
        (d.0, d.1, d.2, d.3, rw (free-run es h f n) d.4)

    -- "then this request at the (k+1)th": the answer at place k, counted from 0
    pub calls_demand_3_at : (k : ℕ) → k ≡ length (ahead_of v h i) → k < length (free_replies v h es) → get_or (free_replies v h es) k Nothing ≡ sent_by_reservation (standing v h i)
    calls_demand_3_at k e l =
        rw (free-run es h f n)
        (demand_3_at (shows v h) (take i (shows v h).waiting) (drop (suc i) (shows v h).waiting) (standing v h i) es (holds-sound v lawful h (firm-holds v lawful h f)) one parted due k e (rw (free-run es h f n) at l))

  -- By places, and under either rule: of any firm table and any place, whatever is called meanwhile.
  pub calls_demand_3_places : (h : Host v) (es : List Event) → firm v h ≡ true → all narrow es ≡ true → (i : ℕ) → TurnKept (shows v h) i (free_replies v h es)
  calls_demand_3_places h es f n i = rw (free-run es h f n) (demand_3_places (shows v h) i es (holds-sound v lawful h (firm-holds v lawful h f)))

  -- And a call that is accepted and finds no place free sends nothing.
  pub calls_no_place : (h : Host v) (e : Event) → firm v h ≡ true → taken (call v e h).0.answer ≡ true → finds e h.gate ≡ false
      → (call v e h).0.answer ≡ Nothing
  calls_no_place h e f a r =
      let k = firm-holds v lawful h f in
      let c = call-answers v lawful h k e in
      c ∙ no_place_no_send (shows v h) e (sym (ap taken c ∙ step-taken (shows v h) e) ∙ a) (sym (free-call h k e) ∙ rw (a, r))
