-- What a limit is worth, over any run from a sound table: document 02, K11. Assumes nothing.
use mathlib.Core.Path.{◌≡◌, refl, sym, ap, subst, ◌∙◌}
use mathlib.Core.Bool.{Bool, true, false, not, ◌&&◌, false≢true}
use mathlib.Core.List.{List, [], ◌∷◌, map, append-nil}
use mathlib.Core.Logic.{◌⊎◌, inl, inr, ⊎_elim}
use Prim.Native.Nat.{ℕ, ◌≤◌, ◌<◌, ◌+◌, ◌-◌, ◌*◌, max}
use native.Mathlib.Omega.{arith}
use lib.Dec.{leb, eqb}
use lib.ListN.{length, get_or, set, get_or-map}
use lib.Seq.{map-set_same, get_or-set_same, get_or-set_other}
use borrow.Author.Tests.{leb-true, leb-false, eqb-true, eqb-false, eq-eqb, not-false}
use Rattle.lists.specs.Words.{if◌then◌else◌, all, filter}
use Rattle.lists.specs.WordsLaws.{both, join, all_parts, all_of_map, all_filter, filter_map, filter-append, filter-filter, map_each}
use Rattle.rules.specs.Tables.{Request, Table, limited, lplain, lspacing, nobodys, owner, of, mine, idle, name, same, names}
use Rattle.rules.specs.Answers.{taken}
use Rattle.rules.specs.Sound.{spread, sound}
use Rattle.rules.specs.Events.{moment, called_by, smallest, shifted, shifted_next, adjusted, stamped, following, placed, raised, stamped_for, arrive_as, arrive, complete, wait, enter}
use Rattle.rules.specs.Choice.{Result, picked, due, open?, due_at, open_at, passes_at, passes, sending, earlier, renewed, drop_of, next_of, dropped, choice}
use Rattle.rules.specs.Refusals.{Verdict, accept, refuse, is_accept, verdict, tests, event_tests, accepted}
use Rattle.rules.specs.Run.{decided, step, answers}
use Rattle.rules.specs.declared.Settings.{Settings}
use Rattle.rules.specs.declared.Setup.{Setup}
use Rattle.rules.specs.declared.Flight.{Flight}
use Rattle.rules.specs.declared.Guest.{Guest}
use Rattle.rules.specs.declared.Phase.{Phase}
use Rattle.rules.specs.declared.Phase.TheVariants.{Reservation, Weight}
use Rattle.rules.specs.declared.Arriving.{Arriving}
use Rattle.rules.specs.declared.Event.{Event}
use Rattle.rules.specs.declared.Event.TheVariants.{Arrival, Completion, Tick}
use Rattle.rules.specs.declared.Answer.TheVariants.{Sent}
use Rattle.rules.proofs.Judged.{condition, passed}
use Rattle.rules.proofs.Raises.{spread-some, raised_above}
use Rattle.rules.proofs.Chains.{kept_above}
use Rattle.rules.proofs.SameSettings.{same-owner, same_count, adjusted-settings, enter-settings, step-settings}
use Rattle.rules.proofs.Facts.{Sound, orderly_is, any_orderly}
use Rattle.rules.proofs.Firsts.{First, first-due, first_open}
use Rattle.rules.proofs.ArriveSound.{adjusted-names}
use Rattle.rules.proofs.EnterSound.{accepted-later, enter_time, enter-sound}
use Rattle.rules.proofs.StepSound.{accepted-step, refused_keeps, step-sound}
use Rattle.rules.proofs.Bounds.{choice_time}
use Rattle.rules.proofs.Answered.{unrefused}
use Rattle.rules.proofs.Cases.{choice_by}
use Rattle.worth.specs.Passages.{Note, called, noted, latest, Passage, gone, ended, passages_from, passages}
use Rattle.worth.specs.Worth.{between, is_weight, by_weight, settings_at, takes, Worth}
use Rattle.worth.proofs.Notes.{Kept, kept-begins, kept-later, kept_like, Lack, kept-noted, kept-comes, Pays, Left, Counts, other_unpaid, kept_goes, Room, room-more, room_of}

-- the next limit number of a guest, where those of all are the same
same_lnext : (us ts : List Guest) → map Guest.lnext us ≡ map Guest.lnext ts → (g : ℕ) → (owner us g).lnext ≡ (owner ts g).lnext
same_lnext us ts e g =
    sym (get_or-map Guest.lnext us g nobodys) ∙ ap (λ (l : List ℕ). get_or l g 0) e ∙ get_or-map Guest.lnext ts g nobodys

-- a refused event is not taken
pub refused-taken : (t : Table) (e : Event) → accepted t e ≡ false → taken (step t e).answer ≡ false
unfolding step decided
refused-taken t e = go (verdict t e)
  where
    go : (v : Verdict) → is_accept v ≡ false → taken (decided v t e).answer ≡ false
    go accept h = absurd (false≢true (sym h))
    go (refuse r) h = refl

-- nothing that waits has the name of an arrival that is accepted, the shares settled or not
pub arrival_lacks : (t : Table) (x : Arriving) (now : ℕ) → accepted t (Arrival x now) ≡ true → (b : Bool) (g : ℕ)
    → Lack (record { guest = x.guest; id = x.id; cost = x.cost; time = now }) (mine g (adjusted b now t).waiting)
unfolding event_tests
arrival_lacks t x now y b g =
    let u = adjusted b now t in
    let f : Flight → Bool = λ f. not (same (called_by x) f) in
    let found : all f (names t) ≡ true = not-false (all f (names t)) (passed (tests false (not (sound t)) t (Arrival x now)) y 7) in
    let still : all f (names u) ≡ true = rw (adjusted-names t now b) found in
    all_filter (λ q. not (same (called_by x) (name q))) (of g) u.waiting
    (sym (all_of_map f name u.waiting) ∙ (all_parts f (map name u.waiting) u.flight still).0)

module _ (g a : ℕ) where
  -- what waits of guest g in the table t, beside the notes h
  abbrev KeptIn : (m : ℕ) → List Note → Table → Type 0
  KeptIn m h t = Kept a m h (mine g t.waiting) (owner t.guests g).lnext t.time

  -- AN EVENT ENTERS

  -- the settling of the shares leaves the time
  adjusted_time : (b : Bool) (now : ℕ) (t : Table) → (adjusted b now t).time ≡ t.time
  unfolding adjusted
  adjusted_time false now t = refl
  adjusted_time true now t = refl

  -- and the guest's next limit number
  adjusted_lnext : (b : Bool) (now : ℕ) (t : Table) → (owner (adjusted b now t).guests g).lnext ≡ (owner t.guests g).lnext
  unfolding adjusted shifted_next
  adjusted_lnext false now t = refl
  adjusted_lnext true now t =
      same_lnext (adjusted true now t).guests t.guests
      (map_each Guest.lnext (λ i h. if idle t i then h else shifted_next now (smallest t) h)
      (λ i h. elim (idle t i) as (λ b. (if b then h else shifted_next now (smallest t) h).lnext ≡ h.lnext) [ true ↦ refl | false ↦ refl ]) 0 t.guests) g

  -- and what is kept
  adjusted-kept : (m : ℕ) (h : List Note) (b : Bool) (now : ℕ) (t : Table) → KeptIn m h t → KeptIn m h (adjusted b now t)
  unfolding adjusted shifted
  adjusted-kept m h false now t k = k
  adjusted-kept m h true now t k =
      let f = shifted now (smallest t) in
      rw (filter_map (of g) f (λ q. refl) t.waiting, adjusted_lnext true now t)
      (kept_like a m h f (λ q. refl) (λ q. refl) (λ q. refl) (mine g t.waiting) (owner t.guests g).lnext t.time k)

  module _ (m : ℕ) (h : List Note) (x : Note) (q : Request) (u : Table) (lack : Lack x (mine g u.waiting)) (later : u.time ≤ x.time) (k : KeptIn m h u) where
    -- another guest's request is placed
    placed_other : of g q ≡ false → KeptIn m (x ∷ h) (placed x.time q u)
    unfolding placed
    placed_other e =
        let z : g ≡ q.guest → ⊥ = λ z. eqb-false q.guest g e (sym z) in
        rw (
          filter-append (of g) u.waiting (q ∷ []),
          e,
          append-nil,
          get_or-set_other u.guests q.guest g (following q (owner u.guests q.guest)) nobodys z,
        )
        (kept-later a m (x ∷ h) (mine g u.waiting) (owner u.guests g).lnext u.time x.time later
        (kept-noted a m h x (mine g u.waiting) (owner u.guests g).lnext u.time lack k))

    -- the guest's own
    placed-own : q.guest ≡ g → q.guest < length u.guests → same (called x) (name q) ≡ true → x.cost ≡ q.cost → max (owner u.guests g).lnext x.time ≤ q.ltag
        → KeptIn m (x ∷ h) (placed x.time q u)
    unfolding placed following
    placed-own e known named priced tagged =
        let next = following q (owner u.guests q.guest) in
        let n : (owner (set u.guests q.guest next) g).lnext ≡ next.lnext =
        ap (λ (i : ℕ). (owner (set u.guests q.guest next) i).lnext) (sym e) ∙ ap Guest.lnext (get_or-set_same u.guests q.guest next nobodys known)
        in
        rw (filter-append (of g) u.waiting (q ∷ []), eq-eqb q.guest g e, n)
        (kept-comes a m h x (mine g u.waiting) (owner u.guests g).lnext u.time lack k q named priced next.lnext tagged (omega arith) later)

  module _ (s : Settings) (lim : limited s ≡ true) where
    -- an accepted arrival
    arrived-kept : (m : ℕ) (h : List Note) (t : Table) (x : Arriving) (now : ℕ) → accepted t (Arrival x now) ≡ true → settings_at t g ≡ s → KeptIn m h t
        → KeptIn m (noted (Arrival x now) h) (enter t (Arrival x now))
    unfolding enter arrive arrive_as stamped raised event_tests
    arrived-kept m h t x now y owns k = go (eqb x.guest g) refl
      where
        b : Bool
        b = idle t x.guest

        u : Table
        u = adjusted b now t

        n : Note
        n = record { guest = x.guest; id = x.id; cost = x.cost; time = now }

        q : Request
        q = stamped_for b now x t

        cs : (i : ℕ) → condition i (tests false (not (sound t)) t (Arrival x now)) ≡ false
        cs = passed (tests false (not (sound t)) t (Arrival x now)) y

        lack : Lack n (mine g u.waiting)
        lack = arrival_lacks t x now y b g

        at_time : u.time ≤ now
        at_time = rw (adjusted_time b now t) (accepted-later t (Arrival x now) y)

        known : x.guest < length u.guests
        known = rw (same_count u t (adjusted-settings b now t)) (leb-false (length t.guests) x.guest (cs 4))

        go : (o : Bool) → eqb x.guest g ≡ o → KeptIn m (n ∷ h) (placed now q u)
        go false e = placed_other m h n q u lack at_time (adjusted-kept m h b now t k) e
        go true e =
            let i = eqb-true x.guest g e in
            let own : limited (owner t.guests x.guest).settings ≡ true = rw (i, owns) lim in
            let l = lplain (owner t.guests x.guest).settings in
            let up = raised_above x.delta l (owner t.guests x.guest).lnext (spread-some x.delta x.rho (not-false (spread x.delta x.rho) (cs 20))) in
            let tag : max (owner t.guests x.guest).lnext now ≤ q.ltag = rw own (omega (arith, up)) in
            let was : (owner t.guests x.guest).lnext ≡ (owner u.guests g).lnext = ap (λ (j : ℕ). (owner t.guests j).lnext) i ∙ sym (adjusted_lnext b now t) in
            placed-own m h n q u lack at_time (adjusted-kept m h b now t k) i known
            (join (eq-eqb x.guest x.guest refl) (eq-eqb x.id x.id refl)) refl (omega (arith, tag, was))

    -- an accepted event
    enter-kept : (m : ℕ) (h : List Note) (t : Table) (e : Event) → accepted t e ≡ true → settings_at t g ≡ s → KeptIn m h t → KeptIn m (noted e h) (enter t e)
    unfolding enter complete wait
    enter-kept m h t (Arrival x now) y owns k = arrived-kept m h t x now y owns k
    enter-kept m h t (Completion f now) y owns k =
        kept-later a m h (mine g t.waiting) (owner t.guests g).lnext t.time now (accepted-later t (Completion f now) y) k
    enter-kept m h t (Tick now) y owns k =
        kept-later a m h (mine g t.waiting) (owner t.guests g).lnext t.time now (accepted-later t (Tick now) y) k

  -- THE CHOICE

  module _ (b : ℕ) (s : Settings) (lim : limited s ≡ true) (ok : Passage → Bool) where
    module _ (t : Table) (firm : Sound t) (owns : settings_at t g ≡ s) (c : Counts g a b t.setup.rule ok) where
      -- behind the guest's first request all limit tags, and its next limit number, are at least what that one's tag and its cost times the spacing are
      above : (p : Request) (v : List Request) → mine g t.waiting ≡ p ∷ v
          → (all (λ q. leb (p.ltag + p.cost * lplain s) q.ltag) v ≡ true) × (p.ltag + p.cost * lplain s ≤ (owner t.guests g).lnext)
      above p v e =
          let o = (orderly_is (owner t.guests g) (mine g t.waiting) (any_orderly t firm g)).limits in
          kept_above Request.ltag (lspacing s) (lspacing s) (p.ltag + p.cost * lplain s) p v (owner t.guests g).lnext (omega arith) (omega arith)
          (rw (e, owns, lim) at o)

      -- what the weight phase sends of the guest has reached its limit tag
      open_reached : (p : Request) → p.guest ≡ g → open? t p ≡ true → p.ltag ≤ t.time
      unfolding open_at
      open_reached p e o = leb-true p.ltag t.time (rw (e, owns, lim) at o)

      -- and under rule 2 what the reservation phase sends
      due_reached : (p : Request) → p.guest ≡ g → due t p ≡ true → t.setup.rule ≡ 2 → p.ltag ≤ t.time
      unfolding passes_at
      due_reached p e o r = open_reached p e (rw r at (both (due_at _ t.time p) (passes t p) o).1)

      -- the request p goes by this phase: of guest g it is the first
      goes : (m : ℕ) (h : List Note) (phase : Phase) (p : Request) (v : List Request) → mine g t.waiting ≡ mine g (p ∷ v)
          → (p.guest ≡ g → (is_weight phase ≡ true) ⊎ (t.setup.rule ≡ 2) → p.ltag ≤ t.time) → KeptIn m h t
          → Left a (lplain s) b m h (mine g v) (owner t.guests g).lnext t.time (filter ok (ended (Sent phase p.guest p.id) t.time h))
      goes m h phase p v first reached k = go (of g p) refl
        where
          next : ℕ
          next = (owner t.guests g).lnext

          go : (o : Bool) → of g p ≡ o → Left a (lplain s) b m h (mine g v) next t.time (filter ok (ended (Sent phase p.guest p.id) t.time h))
          go false e =
              let f : mine g t.waiting ≡ mine g v = first ∙ rw e in
              record {
                most = m;
                kept = rw f at k;
                pays = other_unpaid g a b t.setup.rule (lplain s) ok c phase t.time m p.guest e (latest (name p) h);
              }
          go true e =
              let i = eqb-true p.guest g e in
              let f : mine g t.waiting ≡ p ∷ mine g v = first ∙ rw e in
              let l = above p (mine g v) f in
              subst (λ (j : ℕ). Left a (lplain s) b m h (mine g v) next t.time (filter ok (map (gone phase j t.time) (latest (name p) h)))) (sym i)
              (kept_goes g a b t.setup.rule (lplain s) ok c phase t.time m p (mine g v) next h (reached i) l.0 l.1 (rw f at k))

      -- what a choice leaves
      abbrev LeftBy : (m : ℕ) → List Note → Result → Type 0
      LeftBy m h r =
          Left a (lplain s) b m h (mine g r.table.waiting) (owner r.table.guests g).lnext t.time (filter ok (ended r.answer t.time h))

      -- the drop of reservation tags changes nothing of it
      dropped-left : (m : ℕ) (h : List Note) (p : Request) (u : Table) (out : List Passage)
          → Left a (lplain s) b m h (mine g u.waiting) (owner u.guests g).lnext t.time out
          → Left a (lplain s) b m h (mine g (dropped p u).waiting) (owner (dropped p u).guests g).lnext t.time out
      unfolding dropped earlier renewed
      dropped-left m h p u out l =
          let f : Request → Request = λ q. if of p.guest q then earlier (drop_of u p) q else q in
          let n : (owner (dropped p u).guests g).lnext ≡ (owner u.guests g).lnext =
          same_lnext (dropped p u).guests u.guests
          (map-set_same Guest.lnext u.guests p.guest (renewed (next_of u p) (owner u.guests p.guest)) nobodys refl) g
          in
          record {
            most = l.most;
            kept = rw (filter_map (of g) f (λ q. elim (of p.guest q) as (λ b. of g (if b then earlier (drop_of u p) q else q) ≡ of g q) [ true ↦ refl | false ↦ refl ]) u.waiting, n)
                (kept_like a l.most h f
                (λ q. elim (of p.guest q) as (λ b. name (if b then earlier (drop_of u p) q else q) ≡ name q) [ true ↦ refl | false ↦ refl ])
                (λ q. elim (of p.guest q) as (λ b. (if b then earlier (drop_of u p) q else q).cost ≡ q.cost) [ true ↦ refl | false ↦ refl ])
                (λ q. elim (of p.guest q) as (λ b. (if b then earlier (drop_of u p) q else q).ltag ≡ q.ltag) [ true ↦ refl | false ↦ refl ])
                (mine g u.waiting) (owner u.guests g).lnext t.time l.kept);
            pays = l.pays;
          }

      -- the choice
      choice-left : (m : ℕ) (h : List Note) → KeptIn m h t → LeftBy m h (choice t)
      unfolding sending
      choice-left m h k =
          choice_by (LeftBy m h) t (record { most = m; kept = k; pays = omega arith })
          (λ p v f e.
          let z : First (due t) Request.rtag g (picked p v) t.waiting = rw e at (first-due t firm g) in
          goes m h Reservation p v z.0 (λ i w. ⊎_elim (λ o. absurd (false≢true o)) (due_reached p i z.1) w) k)
          (λ p v f n e.
          let z : First (open? t) Request.stag g (picked p v) t.waiting = rw e at (first_open t firm g) in
          dropped-left m h p (sending t p v) (filter ok (ended (Sent Weight p.guest p.id) t.time h))
          (goes m h Weight p v z.0 (λ i w. open_reached p i z.1) k))

    -- A RUN

    -- the limited guest's settings and the rule stay, so what counts is the same at every table
    module _ (rule : ℕ) (c : Counts g a b rule ok) where
      -- what is settled of the table
      record Settled (t : Table) : Type 0 where
        firm : sound t ≡ true
        owns : settings_at t g ≡ s
        ruled : t.setup.rule ≡ rule

      -- a step leaves it so
      step-settled : (t : Table) (e : Event) → Settled t → Settled (step t e).table
      step-settled t e z =
          let k = step-settings t e in
          record {
            firm = step-sound t e z.firm;
            owns = same-owner (step t e).table t k g ∙ z.owns;
            ruled = ap Setup.rule k.setup ∙ z.ruled;
          }

      -- an accepted event
      accepted-left : (m : ℕ) (h : List Note) (t : Table) (e : Event) → Settled t → accepted t e ≡ true → KeptIn m h t
          → (m' : ℕ) × KeptIn m' (noted e h) (step t e).table × Pays (lplain s) b m m' (filter ok (ended (step t e).answer (moment e) (noted e h)))
      accepted-left m h t e z y k =
          let u = enter t e in
          let same = enter-settings t e in
          let r : rule ≡ u.setup.rule = sym (ap Setup.rule same.setup ∙ z.ruled) in
          let l = choice-left u (enter-sound t e y) (same-owner u t same g ∙ z.owns) (rw r at c) m (noted e h) (enter-kept s lim m h t e y z.owns k) in
          rw (accepted-step t e y)
          (l.most, rw (choice_time u) l.kept, rw (← enter_time t e) l.pays)

      -- what counts of these events is within b, wherever they begin
      abbrev Roomy : List Event → Type 0
      Roomy es = (m : ℕ) (h : List Note) (t : Table) → Settled t → KeptIn m h t → Room (lplain s) b m (filter ok (passages_from h es (answers t es)))

      -- one event before them
      one_more : (e : Event) (es : List Event) → Roomy es → Roomy (e ∷ es)
      unfolding passages_from answers
      one_more e es rest m h t z k = go (accepted t e) refl
        where
          go : (y : Bool) → accepted t e ≡ y → Room (lplain s) b m (filter ok (passages_from h (e ∷ es) (answers t (e ∷ es))))
          go true y =
              let l = accepted-left m h t e z y k in
              let took : taken (step t e).answer ≡ true = rw (accepted-step t e y) (unrefused (enter t e)) in
              rw (took, filter-append ok (ended (step t e).answer (moment e) (noted e h)) (passages_from (noted e h) es (answers (step t e).table es)))
              (room-more (lplain s) b m l.0 (filter ok (ended (step t e).answer (moment e) (noted e h)))
              (filter ok (passages_from (noted e h) es (answers (step t e).table es))) l.2
              (rest l.0 (noted e h) (step t e).table (step-settled t e z) l.1))
          go false y = rw (refused-taken t e y, refused_keeps t e y) (rest m h t z k)

      -- and so of any run
      run_room : (es : List Event) → Roomy es
      unfolding passages_from
      run_room [] = λ m h t z k. tt
      run_room (e ∷ es) = one_more e es (run_room es)

-- what counts of a run of a sound table's answers, for a limited guest
counted-room : (g a b : ℕ) (ok : Passage → Bool) (t : Table) (es : List Event) → sound t ≡ true → limited (settings_at t g) ≡ true → a ≤ b
    → Counts g a b t.setup.rule ok → takes t g (filter ok (passages es (answers t es))) ≤ b - a
counted-room g a b ok t es firm lim le c =
    let s = settings_at t g in
    room_of (lplain s) a b le (filter ok (passages es (answers t es)))
    (run_room g a b s lim ok t.setup.rule c es a [] t (record { firm = firm; owns = refl; ruled = refl })
    (kept-begins a (mine g t.waiting) (owner t.guests g).lnext t.time))

-- WHAT A LIMIT IS WORTH: over any run of events from any sound table, refused ones among them.
pub limit_worth : (t : Table) (es : List Event) → sound t ≡ true → Worth t es (answers t es)
limit_worth t es firm = record { weighed = by_weight_lem; by_rule_2 = by_either }
  where
    wanted : (g a b : ℕ) → Passage → Bool
    wanted g a b y = eqb y.guest g && leb a y.came && leb y.went b

    parts : (g a b : ℕ) (y : Passage) → wanted g a b y ≡ true → (eqb y.guest g ≡ true) × (leb a y.came ≡ true) × (y.went ≤ b)
    parts g a b y w =
        let k = both (eqb y.guest g && leb a y.came) (leb y.went b) w in
        let i = both (eqb y.guest g) (leb a y.came) k.0 in
        (i.0, i.1, leb-true y.went b k.1)

    by_weight_lem : (g a b : ℕ) → limited (settings_at t g) ≡ true → t.time ≤ a → a ≤ b → takes t g (by_weight (between g a b (passages es (answers t es)))) ≤ b - a
    by_weight_lem g a b lim begin le =
        let both-parts : (y : Passage) → wanted g a b y && is_weight y.phase ≡ true → (wanted g a b y ≡ true) × (is_weight y.phase ≡ true) =
        λ y o. both (wanted g a b y) (is_weight y.phase) o
        in
        rw (filter-filter (wanted g a b) (λ y. is_weight y.phase) (passages es (answers t es)))
        (counted-room g a b (λ y. wanted g a b y && is_weight y.phase) t es firm lim le
        (record {
          guest = λ y o. (parts g a b y (both-parts y o).0).0;
          came = λ y o. (parts g a b y (both-parts y o).0).1;
          went = λ y o. (parts g a b y (both-parts y o).0).2;
          phase = λ y o. inl (both-parts y o).1;
        }))

    by_either : t.setup.rule ≡ 2 → (g a b : ℕ) → limited (settings_at t g) ≡ true → t.time ≤ a → a ≤ b → takes t g (between g a b (passages es (answers t es))) ≤ b - a
    by_either r g a b lim begin le =
        counted-room g a b (wanted g a b) t es firm lim le
        (record {
          guest = λ y o. (parts g a b y o).0;
          came = λ y o. (parts g a b y o).1;
          went = λ y o. (parts g a b y o).2;
          phase = λ y o. inr r;
        })
