-- Opening that is not refused gives a sound table. Assumes nothing.
use mathlib.Core.Path.{◌≡◌, refl, ap, ◌∙◌}
use mathlib.Core.Bool.{Bool, true}
use mathlib.Core.List.{List, [], map}
use Prim.Native.Nat.{ℕ}
use native.Mathlib.Omega.{arith}
use lib.ListN.{length, get_or, length-map, get_or-map}
use borrow.Author.Tests.{not-false}
use Rattle.lists.specs.Words.{all}
use Rattle.lists.specs.WordsLaws.{join, all_of_map}
use Rattle.rules.specs.Tables.{Settings, Request, reserved, limited, rspacing, lspacing, sspacing, nobodys}
use Rattle.rules.specs.Sound.{counted, settled, ranges, ruled, distinct, no_gap, orderly, sound}
use Rattle.rules.specs.Refusals.{accept, judged, is_accept, open_tests}
use Rattle.rules.specs.Run.{newcomer, fresh}
use Rattle.rules.proofs.Judged.{passed, passed-behind}
use Rattle.rules.proofs.Chains.{kept_fresh}
use Rattle.rules.proofs.Facts.{is_sound, is_orderly}

-- a newcomer's numbers are in order
newcomer-orderly : (s : Settings) → orderly (newcomer s) [] ≡ true
newcomer-orderly s =
    is_orderly (newcomer s) []
    (record {
      reservations = kept_fresh Request.rtag no_gap (rspacing s) (reserved s);
      limits = kept_fresh Request.ltag (lspacing s) (lspacing s) (limited s);
      shares = kept_fresh Request.stag (sspacing s) (sspacing s) true;
    })

-- the settings of a fresh table lie in the ranges
fresh-ranges : (d c r : ℕ) (ss : List Settings) → counted d (length ss) c ≡ true → all settled ss ≡ true → ranges (fresh d c r ss) ≡ true
unfolding fresh ranges
fresh-ranges d c r ss h k =
    let counts : counted d (length (map newcomer ss)) c ≡ true = rw (length-map ss newcomer) h in
    join counts (all_of_map (λ h. settled h.settings) newcomer ss ∙ k)

-- no name, none twice
distinct_none : distinct [] ≡ true
unfolding distinct
distinct_none = refl

-- Opening that is not refused gives a sound table.
pub fresh-sound : (short : Bool) (d n c r : ℕ) (ss : List Settings) → judged (open_tests short d n c r ss) ≡ accept → length ss ≡ n → sound (fresh d c r ss) ≡ true
unfolding fresh open_tests
fresh-sound short d n c r ss h l =
    let cs = open_tests short d n c r ss in
    let ok : is_accept (judged cs) ≡ true = ap is_accept h in
    let counts = not-false (counted d n c) (passed cs ok 1) in
    let rule = not-false (ruled r) (passed-behind cs ok 1 1) in
    let settings = not-false (all settled ss) (passed-behind cs ok 2 1) in
    is_sound (fresh d c r ss)
    (record {
      in_range = fresh-ranges d c r ss (rw l counts) settings;
      rule_known = rule;
      waiting-fits = omega arith;
      flight_fits = omega arith;
      time_fits = omega arith;
      guests_known = refl;
      names_once = distinct_none;
      tags_fit = refl;
      costs_fit = refl;
      guests_orderly = λ g m. rw (get_or-map newcomer ss g nobodys.settings) (newcomer-orderly (get_or ss g nobodys.settings));
    })
