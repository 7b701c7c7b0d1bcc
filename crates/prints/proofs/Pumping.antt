-- Where the program stands after a turn and after a read, and how it ends there. Assumes nothing.
use Prim.Native.Nat.{ℕ, ◌+◌, ◌≤◌, ◌<◌}
use mathlib.Core.Path.{◌≡◌, refl, sym, ap, subst}
use mathlib.Core.Bool.{Bool, true, false}
use mathlib.Core.List.{List}
use native.Mathlib.Omega.{arith}
use lib.ListN.{length, take, length-append}
use lib.Seq.{length-take-le}
use Rattle.port.specs.Tape.{Holds}
use Rattle.port.specs.Moves.{Goes, brought}
use Rattle.port.specs.declared.Moved.{Moved}
use Rattle.port.specs.declared.Moved.TheVariants.{Bytes, Nothing, Failed}
use Rattle.stream.specs.Runs.{written, Emits}
use Rattle.stream.specs.Outcome.{MOST, Next, Last}
use Rattle.stream.specs.declared.End.{End}
use Rattle.stream.specs.declared.End.TheVariants.{Unread, Unended}
use Rattle.trace.specs.Event.{whole}
use Rattle.trace.specs.Printed.{Place, lines, left, cut, printed}
use Rattle.trace.specs.Reads.{more}
use Rattle.prints.specs.Standing.{Decided, Stands, Standing, Went, Follows}
use Rattle.std.specs.declared.ops.ControlFlow.{ControlFlow}
use Rattle.std.specs.declared.ops.ControlFlow.TheVariants.{Continue, Break}
use Rattle.prints.proofs.Stands.{stands_right, stands-lines, stands-more, stands-none, stands_last}

-- the lines of the place may be handed on
pub standing-next : {e : Bool} {n : ℕ} {p : Place} → Standing e n p → Next printed n (lines p)
standing-next {e} {n} {p} s = record { tape = s.tape; held = s.held; right = stands_right (written (lines p) s.tape) (left p) (stands-lines s.tape p s.stands) }

-- a turn moves the number on by the whole events
pub went_number : {b : Bool} {p q : Place} {n m : ℕ} → Went b p q n m → q.number ≡ p.number + whole p.bytes
unfolding left
went_number w = ap (λ (x : Place). x.number) w.place

-- AFTER A TURN whose lines were written
module _ (n m : ℕ) (p q : Place) (b : Bool) (w : Went b p q n m) (good : b ≡ true) where
  pub turned : (e : Bool) → Standing e n p → Standing e m q
  turned e s =
      record {
        tape = written (lines p) s.tape;
        held = subst (λ (c : Bool). Emits c (lines p) n m) good w.emits s.tape s.held;
        mark = s.mark;
        stands = subst (λ (x : Place). Stands (written (lines p) s.tape) x) (sym w.place) (stands-lines s.tape p s.stands);
      }

-- AT THE END only the line of a cut event is missing
pub standing_last : (n : ℕ) (p : Place) → Standing true n p → length p.bytes < 14 → Last printed n (cut p.number p.bytes)
standing_last n p s few = record { tape = s.tape; held = s.held; lacks = stands_last s.tape p s.stands s.mark few }

-- AFTER A READ behind the bytes of the place
module _ (n m : ℕ) (p : Place) (w : Moved) (bs : List ℕ) (g : Goes (brought w bs) n m) (s : Standing false n p) where
  -- bytes came
  pub read_more : (k : ℕ) → w ≡ Bytes k → Standing false m (more p (take k bs))
  read_more k e =
      record {
        tape = brought (Bytes k) bs s.tape;
        held = subst (λ (x : Moved). Holds m (brought x bs s.tape)) e (g s.tape s.held);
        mark = refl;
        stands = stands-more s.tape p s.stands s.mark k bs;
      }

  -- there are no more
  pub read_none : w ≡ Nothing → Standing true m p
  read_none e =
      record {
        tape = brought Nothing bs s.tape;
        held = subst (λ (x : Moved). Holds m (brought x bs s.tape)) e (g s.tape s.held);
        mark = refl;
        stands = stands-none s.tape p s.stands s.mark bs;
      }

  -- it failed
  pub read_failed : w ≡ Failed → Decided Unread m
  read_failed e =
      record {
        tape = brought Failed bs s.tape;
        held = subst (λ (x : Moved). Holds m (brought x bs s.tape)) e (g s.tape s.held);
        right = stands_right s.tape p s.stands;
        ends = refl;
      }

-- what followed, where it was bytes, and where it was the end
pub follows : (a : ControlFlow End ℕ) (k n m : ℕ) (bs : List ℕ) → a ≡ Continue k → Follows a bs n m → (0 < k) × (k ≤ length bs) × Goes (brought (Bytes k) bs) n m
follows a k n m bs e f = subst (λ (x : ControlFlow End ℕ). Follows x bs n m) e f

pub ends : (a : ControlFlow End ℕ) (end : End) (n m : ℕ) (bs : List ℕ) → a ≡ Break end → Follows a bs n m → Decided end m
ends a end n m bs e f = subst (λ (x : ControlFlow End ℕ). Follows x bs n m) e f

-- THE LOOP: each turn that was made was followed by a read that brought a byte
pub record Pumping (n : ℕ) (p : Place) (turns : ℕ) : Type 0 where
  pub standing : Standing false n p
  pub count : turns ≤ length standing.tape.read

-- one turn and one read more
pub pumps : (n m r : ℕ) (p q : Place) (turns : ℕ) (b : Bool) (w : Went b p q n m) → b ≡ true → (bs : List ℕ) (k : ℕ) → Goes (brought (Bytes k) bs) m r
    → 0 < k → k ≤ length bs → Pumping n p turns → Pumping r (more q (take k bs)) (turns + 1)
unfolding read_more turned
pumps n m r p q turns b w good bs k g some room s =
    let a = turned n m p q b w good false s.standing in
    record {
      standing = read_more m r q (Bytes k) bs g a k refl;
      count = omega (arith, s.count, length-append s.standing.tape.read (take k bs), length-take-le k bs room);
    }

-- no turn is left
pub pumped_out : (n : ℕ) (p : Place) (turns : ℕ) → MOST ≤ turns → Pumping n p turns → Decided Unended n
pumped_out n p turns out s =
    let a = s.standing in
    record { tape = a.tape; held = a.held; right = stands_right a.tape p a.stands; ends = omega (arith, s.count, out) }
