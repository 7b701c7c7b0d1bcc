-- None is missed: from a table at which nothing of a guest waits, every send of the guest is a passage of the run, so what `Worth` counts is what is sent. Assumes
-- nothing.
use mathlib.Core.Path.{◌≡◌, refl, sym, ap, ap₂, ◌∙◌}
use mathlib.Core.Bool.{Bool, true, false, false≢true}
use mathlib.Core.List.{List, [], ◌∷◌, ◌++◌, map}
use Prim.Native.Nat.{ℕ, ◌+◌}
use lib.Dec.{eqb}
use lib.ListN.{length, length-append}
use borrow.Author.Tests.{eq-eqb}
use Rattle.lists.specs.Words.{if◌then◌else◌, all, filter, empty}
use Rattle.lists.specs.WordsLaws.{both, all_append, all_same, filter_map, filter-append}
use Rattle.rules.specs.Tables.{Request, Table, of, mine, idle, name}
use Rattle.rules.specs.Answers.{taken}
use Rattle.rules.specs.Sound.{sound}
use Rattle.rules.specs.Events.{moment, smallest, shifted, adjusted, stamped, placed, stamped_for, arrive_as, arrive, complete, wait, enter}
use Rattle.rules.specs.Choice.{Result, sending, earlier, drop_of, dropped, choice}
use Rattle.rules.specs.Order.{sends, left}
use Rattle.rules.specs.Refusals.{accepted}
use Rattle.rules.specs.Run.{step, answers}
use Rattle.rules.specs.declared.Flight.{Flight}
use Rattle.rules.specs.declared.Phase.{Phase}
use Rattle.rules.specs.declared.Phase.TheVariants.{Reservation, Weight}
use Rattle.rules.specs.declared.Arriving.{Arriving}
use Rattle.rules.specs.declared.Event.{Event}
use Rattle.rules.specs.declared.Event.TheVariants.{Arrival, Completion, Tick}
use Rattle.rules.specs.declared.Answer.{Answer}
use Rattle.rules.specs.declared.Answer.TheVariants.{Nothing, Sent, Refused}
use Rattle.rules.proofs.Facts.{Sound}
use Rattle.rules.proofs.Picks.{Goes, due-goes, open_goes}
use Rattle.rules.proofs.EnterSound.{enter_time, enter-sound}
use Rattle.rules.proofs.StepSound.{accepted-step, refused_keeps, step-sound}
use Rattle.rules.proofs.Answered.{unrefused}
use Rattle.rules.proofs.Cases.{choice_by}
use Rattle.worth.specs.Passages.{Note, noted, latest, Passage, gone, ended, passages_from, passages}
use Rattle.worth.proofs.Notes.{other_note}
use Rattle.worth.proofs.Worth.{refused-taken, arrival_lacks}

-- there is one note
abbrev one : List Note → Bool
one [] = false
one (x ∷ []) = true
one (x ∷ y ∷ l) = false

-- each of these requests has a note under its name
abbrev Noted : List Note → List Request → Type 0
Noted h l = all (λ q. one (latest (name q) h)) l ≡ true

-- so it is where requests change, but not their names
noted_like : (h : List Note) (f : Request → Request) → ((q : Request) → name (f q) ≡ name q) → (l : List Request) → Noted h l → Noted h (map f l)
noted_like h f names l k = all_same (λ q. one (latest (name q) h)) f (λ q. ap (λ (n : Flight). one (latest n h)) (names q)) l ∙ k

module _ (g : ℕ) where
  -- a refusal sends nothing before the rest
  refused-sends : (a : Answer) → taken a ≡ false → (l : List ℕ) → sends g a ++ l ≡ l
  refused-sends Nothing e l = absurd (false≢true (sym e))
  refused-sends (Sent p h i) e l = absurd (false≢true (sym e))
  refused-sends (Refused r) e l = refl

  -- the passage is guest g's
  abbrev pub own : Passage → Bool
  own y = eqb y.guest g

  -- AN EVENT ENTERS

  -- the settling of the shares changes no name
  settled : (h : List Note) (b : Bool) (now : ℕ) (t : Table) → Noted h (mine g t.waiting) → Noted h (mine g (adjusted b now t).waiting)
  unfolding adjusted shifted
  settled h false now t k = k
  settled h true now t k =
      let f = shifted now (smallest t) in
      rw (filter_map (of g) f (λ q. refl) t.waiting) (noted_like h f (λ q. refl) (mine g t.waiting) k)

  -- an accepted arrival is noted
  arrived-noted : (h : List Note) (t : Table) (x : Arriving) (now : ℕ) → accepted t (Arrival x now) ≡ true → Noted h (mine g t.waiting)
      → Noted (noted (Arrival x now) h) (mine g (enter t (Arrival x now)).waiting)
  unfolding enter arrive arrive_as placed stamped
  arrived-noted h t x now y k =
      rw (filter-append (of g) u.waiting (q ∷ []))
      (all_append (λ q. one (latest (name q) (n ∷ h))) (mine g u.waiting) (mine g (q ∷ [])) before last)
    where
      b : Bool
      b = idle t x.guest

      u : Table
      u = adjusted b now t

      q : Request
      q = stamped_for b now x t

      n : Note
      n = record { guest = x.guest; id = x.id; cost = x.cost; time = now }

      before : Noted (n ∷ h) (mine g u.waiting)
      before = other_note (λ q. one) n h (mine g u.waiting) (arrival_lacks t x now y b g) ∙ settled h b now t k

      last : Noted (n ∷ h) (mine g (q ∷ []))
      last =
          elim (of g q) as (λ b. Noted (n ∷ h) (if b then q ∷ [] else []))
          [ true ↦ rw (eq-eqb x.guest x.guest refl, eq-eqb x.id x.id refl) | false ↦ refl ]

  -- and any accepted event
  entered_noted : (h : List Note) (t : Table) (e : Event) → accepted t e ≡ true → Noted h (mine g t.waiting) → Noted (noted e h) (mine g (enter t e).waiting)
  unfolding enter complete wait
  entered_noted h t (Arrival x now) y k = arrived-noted h t x now y k
  entered_noted h t (Completion f now) y k = k
  entered_noted h t (Tick now) y k = k

  -- THE CHOICE

  -- no passage of another guest is guest g's
  none-own : (p : Phase) (g' now : ℕ) → eqb g' g ≡ false → (k : List Note) → filter own (map (gone p g' now) k) ≡ []
  none-own p g' now e [] = refl
  none-own p g' now e (x ∷ k) = rw e (none-own p g' now e k)

  -- a noted request that goes is one passage
  one-own : (p : Phase) (g' now : ℕ) → eqb g' g ≡ true → (k : List Note) → one k ≡ true → length (filter own (map (gone p g' now) k)) ≡ 1
  one-own p g' now e [] n = absurd (false≢true n)
  one-own p g' now e (x ∷ []) n = rw e
  one-own p g' now e (x ∷ y ∷ k) n = absurd (false≢true n)

  module _ (t : Table) (firm : Sound t) (h : List Note) (k : Noted h (mine g t.waiting)) where
    -- what is left is noted, and as many of guest g's passages end as requests are sent
    record Counts (r : Result) : Type 0 where
      still : Noted h (mine g r.table.waiting)
      ends : length (filter own (ended r.answer t.time h)) ≡ length (sends g r.answer)

    -- p goes
    goes : (phase : Phase) (p : Request) (v : List Request) → Goes t p v
        → Noted h (mine g v) × (length (filter own (ended (Sent phase p.guest p.id) t.time h)) ≡ length (sends g (Sent phase p.guest p.id)))
    goes phase p v c = go (of g p) refl
      where
        go : (b : Bool) → of g p ≡ b
            → Noted h (mine g v) × (length (filter own (ended (Sent phase p.guest p.id) t.time h)) ≡ length (sends g (Sent phase p.guest p.id)))
        go true e =
            let f : mine g t.waiting ≡ p ∷ mine g v = c.first g ∙ rw e in
            let n = both (one (latest (name p) h)) (all (λ q. one (latest (name q) h)) (mine g v)) (rw f at k) in
            (n.1, one-own phase p.guest t.time e (latest (name p) h) n.0 ∙ rw e)
        go false e =
            let f : mine g t.waiting ≡ mine g v = c.first g ∙ rw e in
            (rw f at k, ap length (none-own phase p.guest t.time e (latest (name p) h)) ∙ rw e)

    -- the choice
    choice_counts : Counts (choice t)
    unfolding sending dropped earlier
    choice_counts =
        choice_by Counts t (record { still = k; ends = refl })
        (λ p v f e. let n = goes Reservation p v (due-goes t firm p v e) in record { still = n.0; ends = n.1 })
        (λ p v f w e.
        let n = goes Weight p v (open_goes t firm p v e) in
        let d = drop_of (sending t p v) p in
        let lower : Request → Request = λ q. if of p.guest q then earlier d q else q in
        record {
          still = rw (filter_map (of g) lower (λ q. elim (of p.guest q) as (λ b. of g (if b then earlier d q else q) ≡ of g q) [ true ↦ refl | false ↦ refl ]) v)
              (noted_like h lower (λ q. elim (of p.guest q) as (λ b. name (if b then earlier d q else q) ≡ name q) [ true ↦ refl | false ↦ refl ]) (mine g v) n.0);
          ends = n.1;
        })

  -- A RUN

  -- as many of guest g's passages end in these events as its requests are sent
  abbrev Full : List Event → Type 0
  Full es = (h : List Note) (t : Table) → sound t ≡ true → Noted h (mine g t.waiting)
      → length (filter own (passages_from h es (answers t es))) ≡ length (left g (answers t es))

  -- one event before them
  one_more : (e : Event) (es : List Event) → Full es → Full (e ∷ es)
  unfolding passages_from answers
  one_more e es rest h t firm k = go (accepted t e) refl
    where
      go : (y : Bool) → accepted t e ≡ y → length (filter own (passages_from h (e ∷ es) (answers t (e ∷ es)))) ≡ length (left g (answers t (e ∷ es)))
      go true y =
          let u = enter t e in
          let c = choice_counts u (enter-sound t e y) (noted e h) (entered_noted h t e y k) in
          let n : Noted (noted e h) (mine g (step t e).table.waiting) = rw (accepted-step t e y) c.still in
          let m : length (filter own (ended (step t e).answer (moment e) (noted e h))) ≡ length (sends g (step t e).answer) =
          rw (accepted-step t e y, ← enter_time t e) c.ends
          in
          let took : taken (step t e).answer ≡ true = rw (accepted-step t e y) (unrefused u) in
          let later = passages_from (noted e h) es (answers (step t e).table es) in
          rw (took, filter-append own (ended (step t e).answer (moment e) (noted e h)) later)
          (length-append (filter own (ended (step t e).answer (moment e) (noted e h))) (filter own later)
          ∙ ap₂ ◌+◌ m (rest (noted e h) (step t e).table (step-sound t e firm) n)
          ∙ sym (length-append (sends g (step t e).answer) (left g (answers (step t e).table es))))
      go false y = rw (refused-taken t e y, refused_keeps t e y) (rest h t firm k ∙ ap length (sym (refused-sends (step t e).answer (refused-taken t e y) (left g (answers t es)))))

  -- any run
  full : (es : List Event) → Full es
  unfolding passages_from answers
  full [] = λ h t firm k. refl
  full (e ∷ es) = one_more e es (full es)

-- nothing that waits needs a note where nothing waits
idle-noted : (l : List Request) → empty l ≡ true → Noted [] l
idle-noted [] e = refl
idle-noted (q ∷ l) e = absurd (false≢true e)

-- NONE IS MISSED: from a sound table at which nothing of guest g waits, its passages are as many as its sends.
pub none_missed : (g : ℕ) (t : Table) (es : List Event) → sound t ≡ true → idle t g ≡ true
    → length (filter (own g) (passages es (answers t es))) ≡ length (left g (answers t es))
unfolding idle
none_missed g t es firm i = full g es [] t firm (idle-noted (mine g t.waiting) i)
