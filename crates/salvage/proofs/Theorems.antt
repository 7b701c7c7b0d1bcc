-- THE SALVAGE: a trace in which no event meets a reason comes out as it is, a second pass drops nothing, the result is well formed and its events stand in the old
-- order; each answer, room and list is one only, and room past the results is unchanged. Assumes nothing. Words in quotes are K12's.
use Prim.Native.Nat.{ℕ, ◌+◌, ◌*◌, ◌≤◌, ◌<◌}
use mathlib.Core.Path.{◌≡◌, refl, sym, ap, ◌∙◌, subst}
use mathlib.Core.List.{List, [], ◌∷◌, ◌++◌}
use native.Mathlib.Omega.{arith}
use lib.Dec.{leb}
use lib.ListN.{length, get_or, take, drop, take-append-drop}
use lib.Seq.{sets, sets-eq, length-sets, drop-append_seam}
use borrow.Author.Tests.{ltb-false, leb-true}
use Rattle.lists.specs.WordsLaws.{both, neither}
use Rattle.lists.specs.Tab.{tab}
use Rattle.rules.specs.Refusals.{Verdict, accept, refuse, judged, is_accept}
use Rattle.rules.specs.Refused.{NoneHolds}
use Rattle.rules.proofs.Judged.{number_of_once, number_of_some, judged-none, passed, judged_accept}
use Rattle.trace.specs.Header.{first_version, last_version, body, version_of, guests_of, header_tests_for, header_tests}
use Rattle.trace.specs.Answers.{event_bytes}
use Rattle.trace.specs.Cases.{header_cases}
use Rattle.trace.proofs.HeaderExactly.{header_tested, header_good}
use Rattle.moved.specs.Cases.{WellFormed}
use Rattle.salvage.specs.Result.{kept_of, rows_of, event_count, kept_in, rows_in, salvaged, flat, list_of}
use Rattle.salvage.specs.Salvages.{room_tests, salvage_tests, salvaged_shown, leaves_by, salvages, Salvaged}
use Rattle.salvage.specs.Cases.{events_in, reason_at, pieces, drop_cases, Clean, Untouched, InOrder}
use Rattle.salvage.proofs.Counts.{length-flat}
use Rattle.salvage.proofs.Verdicts.{room_enough}
use Rattle.salvage.proofs.Reasons.{rightly, clean_kept}
use Rattle.salvage.proofs.Rows.{no_rows}
use Rattle.salvage.proofs.Again.{piece, again, all_stay}
use Rattle.salvage.proofs.Heads.{opens, version_there, good-there, front-there, events-there}
use Rattle.std.specs.Prelude.{Ok, Err}

-- A TRACE WITH A GOOD HEADER, and room
pub good-leaves : (bs room list : List ℕ) → NoneHolds (header_cases bs) → length (salvaged bs) ≤ length room → length (list_of bs) ≤ length list
    → salvages bs room list ≡ (0 ∷ length (salvaged bs) ∷ length (rows_in bs) ∷ [], sets room 0 (salvaged bs), sets list 0 (list_of bs))
good-leaves bs room list h a b =
    ap (λ (v : Verdict). leaves_by v bs room list)
    (judged_accept (header_tests bs) (room_tests bs (length room) (length list)) (header_good bs h) ∙ room_enough bs (length room) (length list) a b)

-- NOTHING TO DROP

module _ (bs : List ℕ) (header : NoneHolds (header_cases bs)) where
  -- where no event has a row, what comes out is the trace
  stays : kept_in bs ≡ event_bytes bs → salvaged bs ≡ bs
  unfolding salvaged
  stays e = ap (λ (l : List ℕ). take (body (version_of bs) (guests_of bs)) bs ++ l) e ∙ take-append-drop (body (version_of bs) (guests_of bs)) bs

  -- "A trace in which no event meets a reason comes out byte for byte, with an empty list"
  pub clean_stays : Clean bs → (salvaged bs ≡ bs) × (list_of bs ≡ [])
  unfolding flat
  clean_stays c =
      let p = all_stay (version_of bs) (event_bytes bs) (clean_kept bs c) in
      (stays p.0, ap flat p.1)

  pub clean_leaves : Clean bs → (room list : List ℕ) → length bs ≤ length room → salvages bs room list ≡ (0 ∷ length bs ∷ 0 ∷ [], sets room 0 bs, list)
  unfolding flat
  clean_leaves c room list enough =
      let p = all_stay (version_of bs) (event_bytes bs) (clean_kept bs c) in
      let e = stays p.0 in
      let none : list_of bs ≡ [] = ap flat p.1 in
      good-leaves bs room list header (omega (arith, ap length e)) (omega (arith, ap length none))
      ∙ (λ i. (0 ∷ length (e i) ∷ length (p.1 i) ∷ [], sets room 0 (e i), sets list 0 (none i)))

  -- A SECOND PASS
  good : judged (header_tests bs) ≡ accept
  good = header_good bs header

  abbrev v : ℕ
  v = version_of bs

  abbrev t : List ℕ
  t = salvaged bs

  -- as many events as are kept
  abbrev count : ℕ
  count = (again v (event_bytes bs) (events_in bs)).count

  kept-count : event_count (kept_in bs) ≡ count
  kept-count = let l : length (kept_in bs) ≡ count * 14 = (again v (event_bytes bs) (events_in bs)).long in omega arith

  -- keeps all of it
  kept_again : kept_in t ≡ kept_in bs
  kept_again =
      (λ i. kept_of (version_there bs good i) (events-there bs good i) (event_count (events-there bs good i)))
      ∙ ap (kept_of v (kept_in bs)) kept-count
      ∙ (again v (event_bytes bs) (events_in bs)).kept

  rows-again : rows_in t ≡ []
  rows-again =
      (λ i. rows_of (version_there bs good i) (events-there bs good i) (event_count (events-there bs good i)))
      ∙ ap (rows_of v (kept_in bs)) kept-count
      ∙ (again v (event_bytes bs) (events_in bs)).rows

  -- "a second pass drops nothing": what comes out of what came out is the same, with an empty list
  pub second_stays : (salvaged t ≡ t) × (list_of t ≡ [])
  unfolding salvaged flat
  second_stays = (λ i. front-there bs good i ++ kept_again i, ap flat rows-again)

  good-second : NoneHolds (header_cases t)
  good-second =
      let taken = both (leb first_version v) (leb v last_version) (opens bs good).taken in
      (judged-none (header_tested first_version last_version t)).0
      (good-there bs good first_version last_version (leb-true first_version v taken.0) (leb-true v last_version taken.1))

  pub second-leaves : (room list : List ℕ) → length t ≤ length room → salvages t room list ≡ (0 ∷ length t ∷ 0 ∷ [], sets room 0 t, list)
  second-leaves room list enough =
      let e = second_stays.0 in
      let none = second_stays.1 in
      good-leaves t room list good-second (omega (arith, ap length e)) (omega (arith, ap length none))
      ∙ (λ i. (0 ∷ length (e i) ∷ length (rows-again i) ∷ [], sets room 0 (e i), sets list 0 (none i)))

  -- THE RESULT is a well-formed trace of the same version
  all_right : (k : ℕ) → k < events_in t → reason_at t k ≡ 0
  all_right = no_rows (version_of t) (event_bytes t) (events_in t) rows-again

  pub well_formed : WellFormed v t
  unfolding drop_cases
  well_formed =
      let long : length (event_bytes t) ≡ count * 14 = ap length (events-there bs good) ∙ (again v (event_bytes bs) (events_in bs)).long in
      record {
        header = (judged-none (header_tested v v t)).0 (good-there bs good v v (omega arith) (omega arith));
        events = λ k h. ((rightly t k (omega arith)).no_number.0 (all_right k (omega arith))).1.0;
        uncut = omega arith;
      }

  -- its events stand in the old order
  pub old_order : InOrder (pieces t) (pieces bs)
  old_order =
      let e : pieces t ≡ tab count (piece (kept_in bs)) = (λ i. tab (event_count (events-there bs good i)) (piece (events-there bs good i))) ∙ ap (λ (n : ℕ). tab n (piece (kept_in bs))) kept-count in
      subst (λ (l : List (List ℕ)). InOrder l (pieces bs)) (sym e) (again v (event_bytes bs) (events_in bs)).order

-- ONCE: two answers that are shown alike are equal, so a salvage admits one answer, one room and one list
at : ℕ → List ℕ → ℕ
at n l = get_or l n 0

pub salvaged-shown_once : (a b : Salvaged) → salvaged_shown a ≡ salvaged_shown b → a ≡ b
unfolding at
salvaged-shown_once (Ok w) (Ok x) h = λ i. Ok (record { bytes = ap (at 1) h i; rows = ap (at 2) h i })
salvaged-shown_once (Ok w) (Err s) h = absurd (number_of_some s (sym (ap (at 0) h)))
salvaged-shown_once (Err r) (Ok x) h = absurd (number_of_some r (ap (at 0) h))
salvaged-shown_once (Err r) (Err s) h = ap Err (number_of_once r s (ap (at 0) h))

pub once : (bs room list : List ℕ) (a b : Salvaged) (xs ys zs ws : List ℕ) → (salvaged_shown a, xs, zs) ≡ salvages bs room list → (salvaged_shown b, ys, ws) ≡ salvages bs room list
    → (a ≡ b) × (xs ≡ ys) × (zs ≡ ws)
once bs room list a b xs ys zs ws p q =
    let e = p ∙ sym q in
    (salvaged-shown_once a b (ap (λ (x : List ℕ × List ℕ × List ℕ). x.0) e), ap (λ (x : List ℕ × List ℕ × List ℕ). x.1) e, ap (λ (x : List ℕ × List ℕ × List ℕ). x.2) e)

-- UNTOUCHED: room and list are as long as before, and behind the bytes and the rows written they are as they were; nothing is written when refused

-- behind what was written at the front
behind_sets : (xs ys : List ℕ) (n : ℕ) → length xs ≡ n → n ≤ length ys → drop n (sets ys 0 xs) ≡ drop n ys
behind_sets xs ys n e h =
    let z : 0 + length xs ≡ n = omega arith in
    ap (λ (k : ℕ). drop k (sets ys 0 xs)) (sym e)
    ∙ ap (drop (length xs)) (sets-eq xs ys 0 (omega arith))
    ∙ drop-append_seam xs (drop (0 + length xs) ys)
    ∙ ap (λ (k : ℕ). drop k ys) z

-- an accepted salvage had room
roomy : (bs : List ℕ) (room list : ℕ) → judged (salvage_tests bs room list) ≡ accept → (length (salvaged bs) ≤ room) × (length (list_of bs) ≤ list)
unfolding header_tests_for room_tests
roomy bs room list e =
    let p = neither _ _ (passed (salvage_tests bs room list) (ap is_accept e) 21) in
    (ltb-false room (length (salvaged bs)) p.0, ltb-false list (length (list_of bs)) p.1)

pub untouched : (bs room list : List ℕ) → Untouched (salvages bs room list) room list
untouched bs room list = go (judged (salvage_tests bs (length room) (length list))) refl
  where
    go : (v : Verdict) → judged (salvage_tests bs (length room) (length list)) ≡ v → Untouched (leaves_by v bs room list) room list
    go accept e =
        let h = roomy bs (length room) (length list) e in
        let n = length-flat (rows_in bs) in
        record {
          room_long = length-sets room 0 (salvaged bs);
          room-behind = behind_sets (salvaged bs) room (length (salvaged bs)) refl h.0;
          list_long = length-sets list 0 (list_of bs);
          list_behind = behind_sets (list_of bs) list (length (rows_in bs) * 2) n (omega (arith, n, h.1));
        }
    go (refuse r) e = record { room_long = refl; room-behind = refl; list_long = refl; list_behind = refl }
