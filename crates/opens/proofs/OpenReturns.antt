-- What the opening knows at its calls and at its ends, from what its callees ensure. Assumes nothing.
use Rattle.std.specs.Prelude.{None, Ok, Err, Result}
use Prim.Native.Nat.{ℕ, ◌*◌, ◌≤◌, ◌<◌}
use mathlib.Core.Path.{◌≡◌, refl, sym, ap, ◌∙◌, subst}
use mathlib.Core.Bool.{Bool, true, false, not}
use mathlib.Core.List.{List, map}
use lib.ListN.{length, length-map}
use borrow.Author.Tests.{not-true, not-false, lt-ltb, le-ltb}
use Rattle.lists.specs.Words.{all}
use Rattle.lists.specs.Parts.{zeros}
use Rattle.lists.specs.Rows.{over_rows}
use Rattle.lists.specs.RowsLaws.{length-rows}
use Rattle.rules.specs.Sound.{settled, ruled}
use Rattle.rules.specs.Refusals.{Verdict, refuse, open_tests}
use Rattle.rules.specs.Run.{newcomer, fresh}
use Rattle.rules.proofs.Conditions.{counted_means}
use Rattle.turns.proofs.WakeFits.{fresh-never}
use Rattle.rules.specs.declared.Gate.{Gate}
use Rattle.rules.specs.declared.Refusal.{Refusal}
use Rattle.rules.specs.declared.Refusal.TheVariants.{BadSetting, ShortTable}
use Rattle.rules.specs.declared.Answer.TheVariants.{Nothing}
use Rattle.rules.specs.declared.Outcome.{Outcome}
use Rattle.table.specs.Columns.{waiting_wide, flight_wide, settings_wide, most_guests}
use Rattle.table.specs.View.{gate_at, outcome_of, settings_form, guest_form, countable, short}
use Rattle.moves.specs.Moves.{started}
use Rattle.moves.specs.MovesLaws.{cleared_waiting, cleared_flight}
use Rattle.gate.specs.Promise.{numbers, seen, settings_in, open_short_in, handed_in, opened_by_in, opening_in, opened_in, opened}
use Rattle.gate.specs.Judges.{OpenRoom, JudgesOpening, fresh_gate, not_opened}
use Rattle.gate.proofs.Opened.{open_long}

-- THE JUDGEMENT, of a gate with these counts and this rule

-- not many guests
pub known_few : (g : Gate) (b : Bool) → b ≡ countable g → not b ≡ false → g.guests ≤ most_guests
known_few g b p n = ((counted_means g.setup.depth g.guests g.setup.capacity).holds.0 (sym p ∙ not-false b n)).guest-count.1

module _ (g : Gate) (ss gs ws fs : List ℕ) (b : Bool) (p : b ≡ countable g) where
  abbrev Judges : Result Unit Refusal → Type 0
  Judges j = JudgesOpening g.setup.depth g.guests g.setup.capacity g.setup.rule ss gs ws fs j

  -- counts out of range
  pub counts_bad : not b ≡ true → Judges (Err BadSetting)
  unfolding opening_in open_tests
  counts_bad n = rw (sym p ∙ not-true b n) refl

  module _ (n : not b ≡ false) where
    counts_good : countable g ≡ true
    counts_good = sym p ∙ not-false b n

    module _ (a : Bool) (q : a ≡ ruled g.setup.rule) where
      -- no such rule
      pub rule_bad : not a ≡ true → Judges (Err BadSetting)
      unfolding opening_in open_tests
      rule_bad m = rw (counts_good, sym q ∙ not-true a m) refl

      module _ (m : not a ≡ false) where
        rule_good : ruled g.setup.rule ≡ true
        rule_good = sym q ∙ not-false a m

        -- the list of settings is short
        pub list_short : length ss < g.guests * settings_wide → Judges (Err ShortTable)
        unfolding opening_in open_tests open_short_in
        list_short l = rw (counts_good, rule_good, lt-ltb (length ss) (g.guests * settings_wide) l) refl

        module _ (l : g.guests * settings_wide ≤ length ss) (x : Bool) (y : x ≡ short g gs ws fs) where
          -- the tables then decide
          short_is : open_short_in numbers g.setup.depth g.guests g.setup.capacity ss gs ws fs ≡ short g gs ws fs
          unfolding open_short_in short
          short_is = rw (counts_good, le-ltb (length ss) (g.guests * settings_wide) l) refl

          pub tables_short : x ≡ true → Judges (Err ShortTable)
          unfolding opening_in open_tests
          tables_short t = rw (counts_good, rule_good, short_is, sym y ∙ t) refl

          module _ (f : x ≡ false) (s : Bool) (o : s ≡ all settled (settings_in ss g.guests)) where
            pub settings_bad : not s ≡ true → Judges (Err BadSetting)
            unfolding opening_in open_tests
            settings_bad t = rw (counts_good, rule_good, short_is, sym y ∙ f, sym o ∙ not-true s t) refl

            pub opening-good : not s ≡ false → Judges (Ok tt)
            unfolding opening_in open_tests
            opening-good t = (
              rw (counts_good, rule_good, short_is, sym y ∙ f, sym o ∙ not-false s t) refl,
              open_long g.setup.depth g.guests g.setup.capacity ss gs ws fs counts_good (short_is ∙ sym y ∙ f),
            )

-- THE OPENING

module _ (d n c rule : ℕ) (ss gs ws fs : List ℕ) (g : Gate) (e : g ≡ fresh_gate d n c rule) (j : Result Unit Refusal) (found : JudgesOpening g.setup.depth g.guests g.setup.capacity g.setup.rule ss gs ws fs j) where
  told : JudgesOpening d n c rule ss gs ws fs j
  told = subst (λ (x : Gate). JudgesOpening x.setup.depth x.guests x.setup.capacity x.setup.rule ss gs ws fs j) e found

  -- a refusal
  pub not_opened_returns : (r : Refusal) → j ≡ Err r → (o : Outcome) → o ≡ not_opened r → seen (o, gs, ws, fs) ≡ seen (opened d n c rule ss gs ws fs)
  unfolding opened_in
  not_opened_returns r p o q =
      let v : opening_in numbers d n c rule ss gs ws fs ≡ refuse r = subst (JudgesOpening d n c rule ss gs ws fs) p told in
      ap (λ (x : Outcome). seen (x, gs, ws, fs)) q ∙ sym (ap (λ (v : Verdict). seen (opened_by_in numbers v d n c rule ss gs ws fs)) v)

  module _ (p : j ≡ Ok tt) where
    good : JudgesOpening d n c rule ss gs ws fs (Ok tt)
    good = subst (JudgesOpening d n c rule ss gs ws fs) p told

    -- the lent lists have room for the moves
    pub open_room : OpenRoom d n c ss gs ws fs
    open_room = good.1

    -- and what the moves leave is the fresh table
    pub opened_returns : (hs vs es : List ℕ) → hs ≡ started ss n gs → vs ≡ zeros ws (c * waiting_wide) → es ≡ zeros fs (d * flight_wide)
        → (o : Outcome) → o ≡ outcome_of g Nothing None → seen (o, hs, vs, es) ≡ seen (opened d n c rule ss gs ws fs)
    unfolding opened_in handed_in fresh
    opened_returns hs vs es x y z o q =
        let m : length (map newcomer (settings_in ss n)) ≡ n = length-map (settings_in ss n) newcomer ∙ length-rows settings_form ss n in
        let pg : hs ≡ over_rows guest_form (length (map newcomer (settings_in ss n))) (map newcomer (settings_in ss n)) gs = x ∙ ap (λ (k : ℕ). over_rows guest_form k (map newcomer (settings_in ss n)) gs) (sym m) in
        let pw = y ∙ cleared_waiting c ws open_room.waiting in
        let pf = z ∙ cleared_flight d fs open_room.flight in
        let pn = sym (fresh-never d c rule (settings_in ss n)) in
        let pe : g ≡ gate_at (record { depth = d; capacity = c; rule = rule }) (length (map newcomer (settings_in ss n))) 0 0 0 = e ∙ ap (λ (k : ℕ). fresh_gate d k c rule) (sym m) in
        ap (λ (o : Outcome). seen (o, hs, vs, es)) q ∙ (λ i. seen (outcome_of (pe i) Nothing (pn i), pg i, pw i, pf i)) ∙ sym (ap (λ (v : Verdict). seen (opened_by_in numbers v d n c rule ss gs ws fs)) good.0)
