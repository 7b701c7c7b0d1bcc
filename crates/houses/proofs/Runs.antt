-- At each array of a house a run of calls is a run of the gate's own calls: those with the events that are handed on to it. Assumes nothing.
use Prim.Native.Nat.{ℕ, ◌<◌}
use mathlib.Core.Path.{◌≡◌, refl, sym, ap, ◌∙◌, subst}
use mathlib.Core.Bool.{Bool, true, false, ◌&&◌, true≢false, false≢true}
use mathlib.Core.List.{List, [], ◌∷◌}
use lib.Dec.{eqb}
use lib.ListN.{length, get_or, set, length-set}
use lib.Seq.{get_or-set_same, get_or-set_other, set-get_or}
use borrow.Author.Tests.{eqb-true, eqb-false, eq-eqb}
use Rattle.lists.specs.Words.{if◌then◌else◌, all}
use Rattle.lists.specs.WordsLaws.{both, join}
use Rattle.rules.specs.Answers.{taken}
use Rattle.rules.specs.Refusals.{Verdict, accept, refuse, judged, is_accept}
use Rattle.rules.specs.declared.Answer.{Answer}
use Rattle.rules.specs.declared.Answer.TheVariants.{Refused}
use Rattle.rules.specs.declared.Refusal.{Refusal}
use Rattle.rules.specs.declared.Event.{Event}
use Rattle.gate.specs.Promise.{numbers}
use Rattle.gate.specs.Calls.{Host, holds, call, held, narrow, firm, finds, free_replies}
use Rattle.gate.proofs.Lending.{numbers-lawful}
use Rattle.gate.proofs.Runs.{calls_run}
use Rattle.arrays.specs.declared.Ask.{Ask}
use Rattle.arrays.specs.declared.Ask.TheVariants.{Arrives, Completes, Ticks}
use Rattle.arrays.specs.Promise.{HandedAt, ask_tests, asked_by, asked}
use Rattle.houses.specs.House.{Array, House, Deed, nowhere, array_at, site_of, event_of, call_at, left_at, holds_at, held_at, narrow_ask, narrow_deed, free_deed, free_at}
use Rattle.houses.proofs.Keeps.{asked_keeps}
use Rattle.houses.proofs.Accepted.{handed_on_lem}

-- what is judged of a call before the gate of its array is asked
abbrev pub judged_at : House → Deed → Verdict
judged_at h d = judged (ask_tests (site_of h d.array) (array_at h d.array).host.gate h.counters (array_at h d.array).phases d.ask)

-- a call at array a reaches its gate
abbrev pub reaches : (a : ℕ) → House → Deed → Bool
reaches a h d = eqb d.array a && is_accept (judged_at h d)

-- the events that a run of calls hands on to the gate of array a
unfoldable pub handed_to : (a : ℕ) → House → List Deed → List Event
handed_to a h [] = []
handed_to a h (d ∷ ds) = if reaches a h d then event_of h d ∷ handed_to a (holds_at h d) ds else handed_to a (holds_at h d) ds

-- ONE CALL

module _ (h : House) (d : Deed) where
  -- at the array that it names, a call that reaches the gate leaves what the gate's own call leaves
  pub reached : d.array < length h.arrays → judged_at h d ≡ accept
      → ((array_at (holds_at h d) d.array).host ≡ holds numbers (call numbers (event_of h d) (array_at h d.array).host))
      × ((call_at h d).0.answer ≡ (call numbers (event_of h d) (array_at h d.array).host).0.answer)
  reached l p =
      let x = array_at h d.array in
      let o = handed_on_lem (site_of h d.array) x.host.gate x.host.guests x.host.waiting x.host.flight h.counters x.phases d.ask p in (
        ap Array.host (get_or-set_same h.arrays d.array (left_at (call_at h d)) nowhere l) ∙ (λ i. record { gate = (o.0 i).gate; guests = o.1 i; waiting = o.2 i; flight = o.3 i }),
        λ i. (o.0 i).answer,
      )

  -- one that does not leaves that array's gate and tables, and is refused
  pub unreached : d.array < length h.arrays → is_accept (judged_at h d) ≡ false
      → ((array_at (holds_at h d) d.array).host ≡ (array_at h d.array).host) × (taken (call_at h d).0.answer ≡ false)
  unfolding asked
  unreached l p = (ap Array.host (get_or-set_same h.arrays d.array (left_at (call_at h d)) nowhere l) ∙ (go (judged_at h d) p).0, (go (judged_at h d) p).1)
    where
      x : Array
      x = array_at h d.array

      go : (w : Verdict) → is_accept w ≡ false
          → ((left_at (asked_by w (site_of h d.array) x.host.gate x.host.guests x.host.waiting x.host.flight h.counters x.phases d.ask)).host ≡ x.host)
          × (taken (asked_by w (site_of h d.array) x.host.gate x.host.guests x.host.waiting x.host.flight h.counters x.phases d.ask).0.answer ≡ false)
      go accept e = absurd (true≢false e)
      go (refuse r) e = (refl, refl)

  -- the other arrays stay as they were
  pub others-stay : (a : ℕ) → (d.array ≡ a → ⊥) → array_at (holds_at h d) a ≡ array_at h a
  others-stay a n = get_or-set_other h.arrays d.array a (left_at (call_at h d)) nowhere (λ e. n (sym e))

  -- and as many
  pub as_many : length (holds_at h d).arrays ≡ length h.arrays
  as_many = length-set h.arrays d.array (left_at (call_at h d))

  -- a refused call changes nothing
  pub refused-same : (r : Refusal) → (call_at h d).0.answer ≡ Refused r → holds_at h d ≡ h
  refused-same r e =
      let x = array_at h d.array in
      ap (λ (y : HandedAt). record { counters = y.4; arrays = set h.arrays d.array (left_at y) })
      (asked_keeps (site_of h d.array) x.host.gate x.host.guests x.host.waiting x.host.flight h.counters x.phases d.ask r e)
      ∙ ap (λ (l : List Array). record { counters = h.counters; arrays = l }) (set-get_or h.arrays d.array nowhere)

-- what holds of an array that is put in its place, and of the others, holds of all
pub each-array : (P : ℕ → Array → Type 0) (l : List Array) (a : ℕ) (x : Array) → P a x → ((b : ℕ) → b < length l → eqb a b ≡ false → P b (get_or l b nowhere))
    → (b : ℕ) → b < length (set l a x) → P b (get_or (set l a x) b nowhere)
each-array P l a x here others b i = go (eqb a b) refl
  where
    j : b < length l
    j = rw (length-set l a x) at i

    go : (c : Bool) → eqb a b ≡ c → P b (get_or (set l a x) b nowhere)
    go true e =
        let z = eqb-true a b e in
        subst (λ (y : ℕ). P y (get_or (set l a x) y nowhere)) z (subst (P a) (sym (get_or-set_same l a x nowhere (subst (λ (y : ℕ). y < length l) (sym z) j))) here)
    go false e = subst (P b) (sym (get_or-set_other l a b x nowhere (λ z. eqb-false a b e (sym z)))) (others b j e)

-- A RUN

-- a verdict that accepts
accepting : (w : Verdict) → is_accept w ≡ true → w ≡ accept
accepting accept e = refl
accepting (refuse r) e = absurd (false≢true e)

-- what holds between a call and what the gate of array a does with it: its own call with the event that is handed on, or nothing
pub record Turned (a : ℕ) (h : House) (d : Deed) (b : Bool) : Type 0 where
  pub host : (array_at (holds_at h d) a).host ≡ (if b then holds numbers (call numbers (event_of h d) (array_at h a).host) else (array_at h a).host)
  pub free : free_deed a h d ≡ b && (taken (call numbers (event_of h d) (array_at h a).host).0.answer && finds (event_of h d) (array_at h a).host.gate)
  pub answer : b ≡ true → (call_at h d).0.answer ≡ (call numbers (event_of h d) (array_at h a).host).0.answer

-- so it is with every call
pub turned : (a : ℕ) (h : House) (d : Deed) → a < length h.arrays → Turned a h d (reaches a h d)
turned a h d l = go (eqb d.array a) refl
  where
    here : d.array < length h.arrays → (b : Bool) → is_accept (judged_at h d) ≡ b → Turned d.array h d b
    here m true e =
        let r = reached h d m (accepting (judged_at h d) e) in
        record { host = r.0; free = rw (eq-eqb d.array d.array refl) (ap (λ (x : Answer). taken x && finds (event_of h d) (array_at h d.array).host.gate) r.1); answer = λ x. r.1 }
    here m false e =
        let r = unreached h d m e in
        record { host = r.0; free = rw (eq-eqb d.array d.array refl, r.1); answer = λ x. absurd (false≢true x) }

    go : (c : Bool) → eqb d.array a ≡ c → Turned a h d (c && is_accept (judged_at h d))
    go true e = let p = eqb-true d.array a e in subst (λ (x : ℕ). Turned x h d (is_accept (judged_at h d))) p (here (subst (λ (x : ℕ). x < length h.arrays) (sym p) l) (is_accept (judged_at h d)) refl)
    go false e = record { host = ap Array.host (others-stay h d a (eqb-false d.array a e)); free = rw e; answer = λ x. absurd (false≢true x) }

module _ (a : ℕ) where
  -- the array is there after a call
  still_there : (h : House) (d : Deed) → a < length h.arrays → a < length (holds_at h d).arrays
  still_there h d l = rw (as_many h d) l

  -- the gate and the tables of array a after a run are what the gate's own calls leave
  pub array-run : (ds : List Deed) (h : House) → a < length h.arrays → (array_at (held_at h ds) a).host ≡ held numbers (array_at h a).host (handed_to a h ds)
  unfolding held_at held handed_to
  array-run [] h l = refl
  array-run (d ∷ ds) h l = array-run ds (holds_at h d) (still_there h d l) ∙ go (reaches a h d) (turned a h d l)
    where
      go : (b : Bool) → Turned a h d b
          → held numbers (array_at (holds_at h d) a).host (handed_to a (holds_at h d) ds) ≡ held numbers (array_at h a).host (if b then event_of h d ∷ handed_to a (holds_at h d) ds else handed_to a (holds_at h d) ds)
      go true t = ap (λ (x : Host numbers). held numbers x (handed_to a (holds_at h d) ds)) t.host
      go false t = ap (λ (x : Host numbers). held numbers x (handed_to a (holds_at h d) ds)) t.host

  -- and its answers where a place is free are theirs
  pub array-free : (ds : List Deed) (h : House) → a < length h.arrays → free_at a h ds ≡ free_replies numbers (array_at h a).host (handed_to a h ds)
  unfolding free_at free_replies handed_to
  array-free [] h l = refl
  array-free (d ∷ ds) h l = go (reaches a h d) (turned a h d l) (array-free ds (holds_at h d) (still_there h d l))
    where
      e : Event
      e = event_of h d

      rest : List Event
      rest = handed_to a (holds_at h d) ds

      x : Host numbers
      x = (array_at h a).host

      go : (b : Bool) → Turned a h d b → free_at a (holds_at h d) ds ≡ free_replies numbers (array_at (holds_at h d) a).host rest
          → (if free_deed a h d then (call_at h d).0.answer ∷ free_at a (holds_at h d) ds else free_at a (holds_at h d) ds) ≡ free_replies numbers x (if b then e ∷ rest else rest)
      go true t i =
          let j : free_at a (holds_at h d) ds ≡ free_replies numbers (holds numbers (call numbers e x)) rest = i ∙ ap (λ (y : Host numbers). free_replies numbers y rest) t.host in
          λ n. if t.free n then t.answer refl n ∷ j n else j n
      go false t i = rw t.free (i ∙ ap (λ (y : Host numbers). free_replies numbers y rest) t.host)

  -- ids of 32 bits are handed on
  pub handed-narrow : (ds : List Deed) (h : House) → all narrow_deed ds ≡ true → all narrow (handed_to a h ds) ≡ true
  unfolding handed_to
  handed-narrow [] h n = refl
  handed-narrow (d ∷ ds) h n =
      let c = both (narrow_deed d) (all narrow_deed ds) n in
      let i = handed-narrow ds (holds_at h d) c.1 in
      elim (reaches a h d) as (λ b. all narrow (if b then event_of h d ∷ handed_to a (holds_at h d) ds else handed_to a (holds_at h d) ds) ≡ true) [ true ↦ join (same-narrow d.ask c.0) i | false ↦ i ]
    where
      same-narrow : (k : Ask) → narrow_ask k ≡ true → narrow (event_of h (record { array = d.array; ask = k })) ≡ true
      same-narrow (Arrives x now) e = e
      same-narrow (Completes f now) e = refl
      same-narrow (Ticks now) e = refl

  -- tables that are long enough and sound at an array stay so
  pub array-firm : (ds : List Deed) (h : House) → a < length h.arrays → firm numbers (array_at h a).host ≡ true → all narrow_deed ds ≡ true → firm numbers (array_at (held_at h ds) a).host ≡ true
  array-firm ds h l f n = ap (firm numbers) (array-run ds h l) ∙ (calls_run numbers numbers-lawful (handed_to a h ds) (array_at h a).host f (handed-narrow ds h n)).still
