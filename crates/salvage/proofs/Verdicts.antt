-- The verdict on a salvage: a bad header, then the room. Assumes nothing.
use Prim.Native.Nat.{ℕ, ◌≤◌, ◌<◌}
use mathlib.Core.Path.{◌≡◌, refl, ap, ◌∙◌}
use mathlib.Core.Bool.{or-true}
use mathlib.Core.List.{List}
use native.Mathlib.Omega.{arith}
use lib.ListN.{length, take}
use borrow.Author.Tests.{lt-ltb, le-ltb, not-false}
use Rattle.rules.specs.Refusals.{accept, refuse, judged, is_accept}
use Rattle.rules.specs.declared.Refusal.{Refusal}
use Rattle.rules.specs.declared.Refusal.TheVariants.{RoomShort}
use Rattle.rules.proofs.Judged.{passed, judged_refuse, judged_accept}
use Rattle.rules.proofs.Conditions.{counted_means}
use Rattle.trace.specs.Header.{mark, first_version, last_version, body, header_tests_for, header_tests, header_of}
use Rattle.trace.proofs.HeaderLaws.{same_is, body-least, opened}
use Rattle.moved.proofs.Verdicts.{header_verdict, header_accepts}
use Rattle.salvage.specs.Result.{salvaged, list_of}
use Rattle.salvage.specs.Salvages.{room_tests, salvage_tests}
use Rattle.salvage.specs.Judging.{Begun}
use Rattle.std.specs.Prelude.{Ok, Err}
use Rattle.trace.specs.declared.Opened.{Opened}

-- THE ROOM

module _ (bs : List ℕ) (room list : ℕ) where
  pub room-short : room < length (salvaged bs) → judged (room_tests bs room list) ≡ refuse RoomShort
  unfolding room_tests
  room-short h = rw (lt-ltb room (length (salvaged bs)) h) refl

  pub list_short : list < length (list_of bs) → judged (room_tests bs room list) ≡ refuse RoomShort
  unfolding room_tests
  list_short h = rw (lt-ltb list (length (list_of bs)) h, or-true) refl

  pub room_enough : length (salvaged bs) ≤ room → length (list_of bs) ≤ list → judged (room_tests bs room list) ≡ accept
  unfolding room_tests
  room_enough h k = rw (le-ltb room (length (salvaged bs)) h, le-ltb list (length (list_of bs)) k) refl

  -- THE HEADER

  pub header_refused : (r : Refusal) → header_of bs ≡ Err r → judged (salvage_tests bs room list) ≡ refuse r
  header_refused r h = judged_refuse (header_tests bs) (room_tests bs room list) r (header_verdict first_version last_version bs r h)

  pub behind_header : (o : Opened) → header_of bs ≡ Ok o → judged (salvage_tests bs room list) ≡ judged (room_tests bs room list)
  behind_header o h = judged_accept (header_tests bs) (room_tests bs room list) (header_accepts first_version last_version bs o h)

-- a good header has the mark
pub good-mark : (bs : List ℕ) → judged (header_tests bs) ≡ accept → take 3 bs ≡ mark
unfolding header_tests_for
good-mark bs e = (same_is (take 3 bs) mark).0 (not-false _ (passed (header_tests bs) (ap is_accept e) 11))

-- and says how many guests there are, and where the events begin
pub header_few : (bs : List ℕ) (o : Opened) → header_of bs ≡ Ok o → o.guests < 65536
header_few bs o h = omega (arith, ((counted_means o.depth o.guests o.capacity).holds.0 (opened bs o h).counts).guest-count.1)

pub header_begun : (bs : List ℕ) (h : Opened) (at : ℕ) → header_of bs ≡ Ok h → at ≡ body h.version h.guests → Begun h.version at bs
header_begun bs h at p e =
    let o = opened bs h p in
    record {
      version_is = o.version_is;
      at_is = e ∙ (λ i. body (o.version_is i) (o.guests_is i));
      marked = good-mark bs (header_accepts first_version last_version bs h p);
      long = omega (arith, body-least h.version h.guests);
      whole = omega (arith, o.whole);
    }
