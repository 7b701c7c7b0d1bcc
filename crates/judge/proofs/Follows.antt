-- What the definition hears at one event is what may stand there, in plain facts: it follows with a result exactly where the result may stand and the lines begin
-- with its line. In a sound table. Assumes nothing.
use Rattle.std.specs.Prelude.{Some, None, Option}
use Prim.Native.Nat.{ℕ, ◌+◌, ◌<◌}
use mathlib.Core.Path.{◌≡◌, refl, sym, ap, ◌∙◌, subst}
use mathlib.Core.Bool.{Bool, true, false, true≢false}
use mathlib.Core.List.{List}
use native.Mathlib.Omega.{arith}
use lib.Dec.{eqb}
use lib.ListN.{length}
use borrow.Author.Tests.{ltb-true, ltb-false, lt-ltb, le-ltb, eq-eqb, eqb-true}
use Rattle.lists.specs.Words.{if◌then◌else◌}
use Rattle.lists.specs.WordsLaws.{both, join}
use Rattle.rules.specs.Tables.{Request, Table, name}
use Rattle.rules.specs.Choice.{Result, Pick, nobody, picked, least, due, open?, room}
use Rattle.rules.specs.Chosen.{at, Foremost, NoneIs, unsent}
use Rattle.rules.specs.Events.{enter}
use Rattle.rules.specs.Refusals.{Verdict, accept, refuse, verdict, is_accept}
use Rattle.rules.specs.declared.Event.{Event}
use Rattle.rules.specs.declared.Phase.{Phase}
use Rattle.rules.specs.declared.Phase.TheVariants.{Reservation, Weight}
use Rattle.rules.specs.declared.Refusal.TheVariants.{BadEvent, EventCut}
use Rattle.rules.specs.declared.Answer.{Answer}
use Rattle.rules.specs.declared.Answer.TheVariants.{Sent}
use Rattle.rules.proofs.Facts.{Sound}
use Rattle.rules.proofs.EnterSound.{enter-sound}
use Rattle.rules.proofs.Places.{Says as Picked, least-place, least-none}
use Rattle.lines.specs.Line.{line_of}
use Rattle.judge.specs.Acceptable.{MayGo, MayChoose, full, reservation, weight, nothing, Asked, entire, cut_off, refusing, MayDecide, May}
use Rattle.judge.specs.Judging.{begins, follows, wrong, told, ok_in, tag_in, sent_at, ties, named, place_from, leads, sent_in, heard_in, heard_weight, heard_reservation, heard_choice, heard_by, heard}
use Rattle.judge.proofs.Bytes.{begins_is, line_once}
use Rattle.judge.proofs.Places.{Says, place_says, place_found}
use Rattle.judge.proofs.Tied.{leads-first, first-leads}
use Rattle.judge.proofs.Ties.{one_place}
use Rattle.judge.proofs.Heard.{sent_answer}
use Rattle.std.specs.Prelude.{Some, None}

-- to follow is not to be wrong
pub never : {r : Result} → wrong ≡ follows r → ⊥
never e = let z : ◌≡◌ {A = ℕ} 0 1 = cc in omega arith

-- the result that is followed
same_result : {a b : Result} → follows a ≡ follows b → a ≡ b
same_result e = cc

-- the two sends of a name are of one answer
two-names : {p : Phase} {g i h j : ℕ} → Sent p g i ≡ Sent p h j → (g ≡ h) × (i ≡ j)
two-names e = (cc, cc)

module _ (n : ℕ) (ls : List ℕ) where
  -- the lines begin with the line of a result
  abbrev pub Spoken : Result → Type 0
  Spoken r = begins (line_of n r.answer) ls ≡ true

  -- ONLY ONE RESULT

  pub told-follows : (x r : Result) → told n ls x ≡ follows r → (r ≡ x) × Spoken r
  unfolding told
  told-follows x r e = go (begins (line_of n x.answer) ls) refl e
    where
      go : (b : Bool) → begins (line_of n x.answer) ls ≡ b → (if b then follows x else wrong) ≡ follows r → (r ≡ x) × Spoken r
      go true h e = let q = same_result e in (sym q, subst Spoken q h)
      go false h e = absurd (never e)

  pub told-heard : (x r : Result) → r ≡ x → Spoken r → told n ls x ≡ follows r
  unfolding told
  told-heard x r e h = rw (subst Spoken e h) (ap follows (sym e))

  module _ (t : Table) (s : Sound t) where
    abbrev w : List Request
    w = t.waiting

    -- A PHASE

    module _ (p : Phase) (i₀ : ℕ) (f : Foremost (ok_in p t) (tag_in p) w i₀) where
      abbrev m : ℕ
      m = tag_in p (at w i₀)

      abbrev test : Request → Bool
      test = named n ls p t m

      -- the place, and what is sent from it
      record Goes (r : Result) : Type 0 where
        place : ℕ
        may : MayGo (ok_in p t) (tag_in p) w place
        sent : r ≡ sent_at p t place
        spoken : Spoken r

      -- by whether it is the first of its guest
      goes_at : (r : Result) (i : ℕ) → Says test 0 w (Some i) → (b : Bool) → leads w i ≡ b → (if b then follows (sent_at p t i) else wrong) ≡ follows r → Goes r
      goes_at r i a false z e = absurd (never e)
      goes_at r i a true z e =
          let q = at w a.place in
          let here : a.place ≡ i = omega (arith, a.numbered) in
          let c = both (ties p t m q) (begins (line_of n (Sent p q.guest q.id)) ls) a.tells in
          let d = both (ok_in p t q) (eqb (tag_in p q) m) c.0 in
          let same = eqb-true (tag_in p q) m d.1 in
          let is : r ≡ sent_at p t a.place = sym (same_result e) ∙ ap (sent_at p t) (sym here) in
          record {
            place = a.place;
            may = record { inside = a.inside; good = d.0; smallest = λ j h o. omega (arith, f.smallest j h o); first = leads-first w a.place (ap (leads w) here ∙ z) };
            sent = is;
            spoken = ap (λ (x : Answer). begins (line_of n x) ls) (ap Result.answer is ∙ sent_answer p t a.place) ∙ c.1;
          }

      send_goes : (r : Result) → heard_in n ls p t m ≡ follows r → Goes r
      unfolding heard_in
      send_goes r e = go (place_from test 0 w) (place_says test 0 w) e
        where
          go : (x : Option ℕ) → Says test 0 w x → sent_in p t x ≡ follows r → Goes r
          go None a e = absurd (never e)
          go (Some i) a e = goes_at r i a (leads w i) refl e

      send_heard : (i : ℕ) → MayGo (ok_in p t) (tag_in p) w i → (r : Result) → r ≡ sent_at p t i → Spoken r → heard_in n ls p t m ≡ follows r
      unfolding heard_in
      send_heard i g r e h =
          let q = at w i in
          let its : begins (line_of n (Sent p q.guest q.id)) ls ≡ true = ap (λ (x : Answer). begins (line_of n x) ls) (sym (ap Result.answer e ∙ sent_answer p t i)) ∙ h in
          let tag : tag_in p q ≡ m = omega (arith, g.smallest i₀ f.inside f.good, f.smallest i g.inside g.good) in
          let y : test q ≡ true = join (join g.good (eq-eqb (tag_in p q) m tag)) its in
          ap (sent_in p t) (place_found test 0 w i g.inside y (λ j l. other j l (test (at w j)) refl its))
          ∙ ap (λ (k : ℕ). sent_in p t (Some k)) (let z : 0 + i ≡ i = omega arith in z) ∙ rw (first-leads w i g.first) (ap follows (sym e))
        where
          -- an earlier one with the same line would have the same name
          other : (j : ℕ) → j < i → (b : Bool) → test (at w j) ≡ b → begins (line_of n (Sent p (at w i).guest (at w i).id)) ls ≡ true → b ≡ false
          other j l false z its = refl
          other j l true z its =
              let c = both (ties p t m (at w j)) (begins (line_of n (Sent p (at w j).guest (at w j).id)) ls) z in
              let x = line_once n (Sent p (at w j).guest (at w j).id) (Sent p (at w i).guest (at w i).id) _ _ (sym (begins_is _ ls c.1) ∙ begins_is _ ls its) in
              let y = two-names x in
              let k : name (at w j) ≡ name (at w i) = λ a. record { guest = y.0 a; id = y.1 a } in
              absurd (omega (arith, one_place t s j i (omega (arith, g.inside)) g.inside k))

    -- THE CHOICE

    free : room t ≡ true → length t.flight < t.setup.depth
    unfolding room
    free e = ltb-true (length t.flight) t.setup.depth e

    pub choice_may : (r : Result) → heard_choice n ls t ≡ follows r → MayChoose t r × Spoken r
    unfolding heard_choice room
    choice_may r e = go (room t) refl e
      where
        weigh : room t ≡ true → NoneIs (due t) w → (k : Pick) → Picked (open? t) Request.stag w k → heard_weight n ls t k ≡ follows r → MayChoose t r × Spoken r
        weigh x nd nobody a e = let b = told-follows (unsent t) r e in (nothing (free x) nd a b.0, b.1)
        weigh x nd (picked q v) a e =
            let b = send_goes Weight a.place a.foremost r (ap (λ (y : Request). heard_in n ls Weight t y.stag) (sym a.request) ∙ e) in
            (weight b.place (free x) nd b.may b.sent, b.spoken)

        reserve : room t ≡ true → (k : Pick) → Picked (due t) Request.rtag w k → heard_reservation n ls t k ≡ follows r → MayChoose t r × Spoken r
        reserve x nobody nd e = weigh x nd (least (open? t) Request.stag w) (least-place (open? t) Request.stag w) e
        reserve x (picked q v) a e =
            let b = send_goes Reservation a.place a.foremost r (ap (λ (y : Request). heard_in n ls Reservation t y.rtag) (sym a.request) ∙ e) in
            (reservation b.place (free x) b.may b.sent, b.spoken)

        go : (b : Bool) → room t ≡ b → (if b then heard_reservation n ls t (least (due t) Request.rtag w) else told n ls (unsent t)) ≡ follows r → MayChoose t r × Spoken r
        go true x e = reserve x (least (due t) Request.rtag w) (least-place (due t) Request.rtag w) e
        go false x e = let b = told-follows (unsent t) r e in (full (ltb-false (length t.flight) t.setup.depth x) b.0, b.1)

    pub choice-heard : (r : Result) → MayChoose t r → Spoken r → heard_choice n ls t ≡ follows r
    unfolding heard_choice room
    choice-heard r (full x e) h = rw (le-ltb (length t.flight) t.setup.depth x) (told-heard (unsent t) r e h)
    choice-heard r (reservation i x g e) h = rw (lt-ltb (length t.flight) t.setup.depth x) (go (least (due t) Request.rtag w) (least-place (due t) Request.rtag w))
      where
        go : (k : Pick) → Picked (due t) Request.rtag w k → heard_reservation n ls t k ≡ follows r
        go nobody nd = absurd (true≢false (sym g.good ∙ nd i g.inside))
        go (picked q v) a = ap (λ (y : Request). heard_in n ls Reservation t y.rtag) a.request ∙ send_heard Reservation a.place a.foremost i g r e h
    choice-heard r (weight i x nd g e) h =
        rw (lt-ltb (length t.flight) t.setup.depth x, least-none (due t) Request.rtag w nd) (go (least (open? t) Request.stag w) (least-place (open? t) Request.stag w))
      where
        go : (k : Pick) → Picked (open? t) Request.stag w k → heard_weight n ls t k ≡ follows r
        go nobody nd = absurd (true≢false (sym g.good ∙ nd i g.inside))
        go (picked q v) a = ap (λ (y : Request). heard_in n ls Weight t y.stag) a.request ∙ send_heard Weight a.place a.foremost i g r e h
    choice-heard r (nothing x nd none e) h =
        rw (lt-ltb (length t.flight) t.setup.depth x, least-none (due t) Request.rtag w nd, least-none (open? t) Request.stag w none) (told-heard (unsent t) r e h)

  -- EACH THAT ASKS

  module _ (t : Table) where
    entered : (e : Event) → verdict t e ≡ accept → Sound (enter t e)
    entered e v = enter-sound t e (ap is_accept v)

    pub heard_may : (x : Asked) (r : Result) → heard n ls t x ≡ follows r → May t x r × Spoken r
    unfolding heard
    heard_may (entire (Some e)) r h = go (verdict t e) refl h
      where
        go : (v : Verdict) → verdict t e ≡ v → heard_by n ls v t e ≡ follows r → MayDecide v t e r × Spoken r
        go accept k h = choice_may (enter t e) (entered e k) r h
        go (refuse why) k h = told-follows (refusing t why) r h
    heard_may (entire None) r h = told-follows (refusing t BadEvent) r h
    heard_may cut_off r h = told-follows (refusing t EventCut) r h

    pub may_heard : (x : Asked) (r : Result) → May t x r → Spoken r → heard n ls t x ≡ follows r
    unfolding heard
    may_heard (entire (Some e)) r m h = go (verdict t e) refl m
      where
        go : (v : Verdict) → verdict t e ≡ v → MayDecide v t e r → heard_by n ls v t e ≡ follows r
        go accept k m = choice-heard (enter t e) (entered e k) r m h
        go (refuse why) k m = told-heard (refusing t why) r m h
    may_heard (entire None) r m h = told-heard (refusing t BadEvent) r m h
    may_heard cut_off r m h = told-heard (refusing t EventCut) r m h
