-- Every well-formed trace of version 1 goes up, given room: version 1 says rule 1, credit 0 and cost 1 only. Assumes nothing.
use Prim.Native.Nat.{ℕ, ◌≤◌, ◌<◌}
use mathlib.Core.Path.{◌≡◌, refl, ap, ◌∙◌, subst}
use mathlib.Core.Bool.{true}
use mathlib.Core.List.{List, [], ◌∷◌, ◌++◌}
use native.Mathlib.Omega.{arith}
use lib.ListN.{length}
use borrow.Author.Tests.{eqb-true, leb-true}
use Rattle.lists.specs.Words.{all}
use Rattle.lists.specs.WordsLaws.{both, places_all, all-each}
use Rattle.lists.specs.Tab.{tab, length-tab, get_or-tab}
use Rattle.rules.specs.Tables.{nobodys}
use Rattle.rules.specs.Refusals.{Verdict, accept, judged}
use Rattle.rules.specs.Refused.{Case, NoneHolds}
use Rattle.rules.proofs.Judged.{judged-none}
use Rattle.trace.specs.Little.{byte_at}
use Rattle.trace.specs.Header.{version_of, guests_of, rule_in, credit_at, settings_at, settings_in, header_tests_for, opened_of, header_by}
use Rattle.trace.specs.Event.{upper_in}
use Rattle.trace.specs.Answers.{bytes_at}
use Rattle.trace.specs.Cases.{header_cases_for}
use Rattle.trace.proofs.HeaderLaws.{opened_for}
use Rattle.trace.proofs.HeaderExactly.{header_tested}
use Rattle.moved.specs.Result.{moved_to}
use Rattle.moved.specs.Moves.{creditless, move_tests}
use Rattle.moved.specs.Cases.{Sayable, body_cases, WellFormed}
use Rattle.moved.proofs.Exactly.{move_tested}

-- no condition of two lists holds
none-of_both : (cs ds : List Case) → NoneHolds cs → NoneHolds ds → NoneHolds (cs ++ ds)
none-of_both [] ds p q = q
none-of_both (c ∷ cs) ds p q = (p.0, none-of_both cs ds p.1 q)

module _ (bs : List ℕ) (one : version_of bs ≡ 1) where
  no_credits : all creditless (settings_in bs) ≡ true
  unfolding credit_at
  no_credits =
      let n = guests_of bs in
      let f = settings_at (version_of bs) bs in
      let d = nobodys.settings in
      places_all creditless (tab n f) d
      (λ j h. ap creditless (get_or-tab n f j d (omega (arith, length-tab n f))) ∙ rw one refl)

  -- all that it says version 1 can say
  pub sayable : Sayable bs
  unfolding rule_in upper_in
  sayable =
      record {
        rule = ap (λ (v : ℕ). rule_in v bs) one;
        credits = λ s m. eqb-true s.credit 0 (all-each creditless (settings_in bs) no_credits s m);
        costs = λ k l d. let z : 0 < upper_in 1 (byte_at (bytes_at bs k) 0) = subst (λ (v : ℕ). 0 < upper_in v (byte_at (bytes_at bs k) 0)) one d.1 in omega arith;
      }

pub well_formed_goes-up : (bs : List ℕ) (room : ℕ) → WellFormed 1 bs → length (moved_to 2 bs) ≤ room → judged (move_tests 1 2 bs room) ≡ accept
unfolding body_cases
well_formed_goes-up bs room w enough =
    let e : judged (header_tests_for 1 1 bs) ≡ accept = (judged-none (header_tested 1 1 bs)).1 w.header in
    let o = opened_for 1 1 bs (opened_of bs) (ap (λ (v : Verdict). header_by v bs) e) in
    let t = both _ _ o.taken in
    let one : version_of bs ≡ 1 = omega (arith, leb-true 1 (version_of bs) t.0, leb-true (version_of bs) 1 t.1) in
    (judged-none (move_tested bs 1 2 room)).1
    (none-of_both (header_cases_for 1 1 bs) (body_cases 2 bs room) w.header
    (λ p. w.events p.0 p.1 p.2, (λ p. omega (arith, w.uncut), (λ p. p (sayable bs one), (λ p. omega arith, tt)))))
