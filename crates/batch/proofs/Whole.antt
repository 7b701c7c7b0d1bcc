-- What the whole call hands back, by what its tests find: refused with nothing done, or every event done. Assumes nothing.
use Rattle.std.specs.Prelude.{Ok}
use Prim.Native.Nat.{ℕ, ◌*◌, ◌/◌, ◌≤◌, ◌<◌}
use mathlib.Core.Path.{◌≡◌, sym, ap, ◌∙◌}
use mathlib.Core.List.{List}
use native.Mathlib.Nat.{div-lt_iff_lt-mul, le-div_iff_mul-le}
use lib.Dec.{lit<}
use lib.ListN.{length}
use borrow.Author.Tests.{lt-ltb, le-ltb}
use Rattle.rules.specs.declared.Gate.{Gate}
use Rattle.rules.specs.declared.Refusal.TheVariants.{AnswersShort, TooManyEvents}
use Rattle.rules.specs.Refusals.{Verdict, accept, refuse, judged}
use Rattle.gate.specs.Promise.{numbers}
use Rattle.batch.specs.Rows.{count_of, most_events, answer_wide}
use Rattle.batch.specs.Promise.{batch_tests, host_of, batched_by, batched_in, batched, seen_batch}
use Rattle.batch.specs.Turns.{Ran}

module _ (es bs : List ℕ) where
  -- fewer whole rows than events: the room is short
  pub short-judged : length bs / answer_wide < count_of es → judged (batch_tests es bs) ≡ refuse AnswersShort
  unfolding batch_tests
  short-judged h = simp (lt-ltb (length bs) (count_of es * answer_wide) ((div-lt_iff_lt-mul {k = answer_wide} {x = length bs} {y = count_of es} (lit< tt)).0 h))

  module _ (room : count_of es ≤ length bs / answer_wide) where
    -- enough of them: there is room
    pub has_room : count_of es * answer_wide ≤ length bs
    has_room = (le-div_iff_mul-le {k = answer_wide} {x = count_of es} {y = length bs} (lit< tt)).0 room

    -- too many events
    pub many_judged : most_events < count_of es → judged (batch_tests es bs) ≡ refuse TooManyEvents
    unfolding batch_tests
    many_judged h = simp (le-ltb (length bs) (count_of es * answer_wide) has_room, lt-ltb most_events (count_of es) h)

    -- not too many
    pub good-judged : count_of es ≤ most_events → judged (batch_tests es bs) ≡ accept
    unfolding batch_tests
    good-judged h = simp (le-ltb (length bs) (count_of es * answer_wide) has_room, le-ltb most_events (count_of es) h)

  module _ (g : Gate) (gs ws fs : List ℕ) where
    -- what follows from a verdict is what is handed back
    pub followed : (w : Verdict) → judged (batch_tests es bs) ≡ w → batched es g gs ws fs bs ≡ batched_by numbers w es (host_of numbers g gs ws fs) bs
    unfolding batched_in
    followed w p = ap (λ (x : Verdict). batched_by numbers x es (host_of numbers g gs ws fs) bs) p

    -- every event is done
    pub all_done_lem : judged (batch_tests es bs) ≡ accept → (g' : Gate) (gs' ws' fs' bs' : List ℕ) → Ran es (host_of numbers g gs ws fs) bs (host_of numbers g' gs' ws' fs') bs'
        → seen_batch (record { gate = g'; found = Ok tt }, gs', ws', fs', bs') ≡ seen_batch (batched es g gs ws fs bs)
    all_done_lem p g' gs' ws' fs' bs' r =
        (λ i. seen_batch (record { gate = (r.hold i).gate; found = Ok tt }, (r.hold i).guests, (r.hold i).waiting, (r.hold i).flight, r.answers i))
        ∙ ap seen_batch (sym (followed accept p))
