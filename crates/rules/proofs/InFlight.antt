-- "Requests in flight stand in order of sending and close up in the same way": what is in flight after each event. Assumes nothing.
use mathlib.Core.Path.{◌≡◌, refl, ap, ◌∙◌}
use mathlib.Core.Bool.{Bool, true, false, not}
use mathlib.Core.List.{List, [], ◌∷◌, ◌++◌, map}
use Prim.Native.Nat.{ℕ}
use borrow.Author.Tests.{eq-eqb, not-true}
use Rattle.lists.specs.Words.{if◌then◌else◌, without}
use Rattle.lists.specs.WordsLaws.{both, all_parts}
use Rattle.rules.specs.declared.Answer.{Answer}
use Rattle.rules.specs.declared.Answer.TheVariants.{Nothing, Sent, Refused}
use Rattle.rules.specs.Tables.{Request, Flight, Table, idle, name, same, lacks}
use Rattle.rules.specs.Sound.{distinct, sound}
use Rattle.rules.specs.Choice.{Result, Pick, nobody, picked, least, due, open?, sending, dropped, by_weight, by_reservation, room, choice}
use Rattle.rules.specs.Events.{Arriving, Event, Arrival, Completion, Tick, adjusted, placed, arrive_as, arrive, complete, wait, enter}
use Rattle.rules.specs.Refusals.{accepted}
use Rattle.rules.specs.Run.{step}
use Rattle.rules.proofs.Facts.{sound_is}
use Rattle.rules.proofs.Names.{distinct_mid}
use Rattle.rules.proofs.StepSound.{accepted-step}

-- what was in flight, and behind it the request that the answer sends, if it sends one
abbrev pub joined_by : Answer → List Flight → List Flight
joined_by Nothing l = l
joined_by (Sent p g i) l = l ++ (record { guest = g; id = i } ∷ [])
joined_by (Refused r) l = l

-- what is in flight when the event has taken out what it names: a completion its request, the others none
abbrev pub left_by : Event → List Flight → List Flight
left_by (Arrival a now) l = l
left_by (Completion f now) l = without (same f) l
left_by (Tick now) l = l

-- THE CHOICE

abbrev Joins : Table → Result → Type 0
Joins t r = r.table.flight ≡ joined_by r.answer t.flight

weight_joins : (t : Table) (k : Pick) → Joins t (by_weight t k)
unfolding by_weight sending dropped
weight_joins t nobody = refl
weight_joins t (picked q w) = refl

reservation_joins : (t : Table) (k : Pick) → Joins t (by_reservation t k)
unfolding by_reservation sending
reservation_joins t nobody = weight_joins t (least (open? t) Request.stag t.waiting)
reservation_joins t (picked q w) = refl

-- what the choice sends is the last in flight, and the others stay as they stood
pub choice_joins : (t : Table) → (choice t).table.flight ≡ joined_by (choice t).answer t.flight
unfolding choice
choice_joins t =
    elim (room t) as (λ b. Joins t (if b then by_reservation t (least (due t) Request.rtag t.waiting) else record { table = t; answer = Nothing }))
    [ true ↦ reservation_joins t (least (due t) Request.rtag t.waiting) | false ↦ refl ]

-- AN EVENT

arrive_flight : (b : Bool) (now : ℕ) (a : Arriving) (t : Table) → (arrive_as b now a t).flight ≡ t.flight
unfolding arrive_as placed adjusted
arrive_flight true now a t = refl
arrive_flight false now a t = refl

pub enter_flight : (t : Table) (e : Event) → (enter t e).flight ≡ left_by e t.flight
unfolding enter arrive complete wait
enter_flight t (Arrival a now) = arrive_flight (idle t a.guest) now a t
enter_flight t (Completion f now) = refl
enter_flight t (Tick now) = refl

-- "in order of sending": an accepted event takes out what it completes, and what it sends is the last
pub in_order_of-sending : (t : Table) (e : Event) → accepted t e ≡ true
    → (step t e).table.flight ≡ joined_by (step t e).answer (left_by e t.flight)
in_order_of-sending t e h =
    rw (accepted-step t e h) (choice_joins (enter t e) ∙ ap (joined_by (choice (enter t e)).answer) (enter_flight t e))

-- CLOSING UP

-- each name of a second part stands once
distinct_right : (a b : List Flight) → distinct (a ++ b) ≡ true → distinct b ≡ true
unfolding distinct
distinct_right [] b h = h
distinct_right (x ∷ a) b h = distinct_right a b (both (lacks x (a ++ b)) (distinct (a ++ b)) h).1

-- the first of a name is taken out
without_mid : (f : Flight) (a b : List Flight) → lacks f a ≡ true → without (same f) (a ++ f ∷ b) ≡ a ++ b
without_mid f [] b h = rw (eq-eqb f.guest f.guest refl, eq-eqb f.id f.id refl)
without_mid f (x ∷ a) b h =
    let c = both (not (same f x)) (lacks f a) h in
    rw (not-true (same f x) c.0) (ap (x ∷◌) (without_mid f a b c.1))

-- "close up": in a sound table the completed request leaves, wherever it stands, and those before and behind it stay in their order
pub closes_up : (t : Table) → sound t ≡ true → (f : Flight) (now : ℕ) (a b : List Flight) → t.flight ≡ a ++ f ∷ b
    → left_by (Completion f now) t.flight ≡ a ++ b
closes_up t h f now a b e =
    let d : distinct (a ++ f ∷ b) ≡ true = rw e at (distinct_right (map name t.waiting) t.flight (sound_is t h).names_once) in
    let c = both (lacks f (a ++ b)) (distinct (a ++ b)) (rw (distinct_mid a f b) at d) in
    rw e (without_mid f a b (all_parts (λ x. not (same f x)) a b c.0).0)
