-- Where the program stands after a turn and after a read, and how it ends there. Assumes nothing.
use Prim.Native.Nat.{ℕ, ◌+◌, ◌≤◌, ◌<◌}
use mathlib.Core.Path.{◌≡◌, refl, sym, ap, ◌∙◌, subst}
use mathlib.Core.Bool.{Bool, true, false, false≢true}
use mathlib.Core.List.{List, [], ◌++◌, append_assoc, append-nil}
use native.Mathlib.Omega.{arith}
use lib.ListN.{length, take, length-append}
use lib.Seq.{length-take-le}
use Rattle.rules.specs.declared.Gate.{Gate}
use Rattle.table.proofs.Facts.{facts}
use Rattle.tally.specs.Kept.{figures_of}
use Rattle.port.specs.Tape.{Tape, Holds}
use Rattle.port.specs.Moves.{Goes, brought}
use Rattle.port.specs.declared.Moved.{Moved}
use Rattle.port.specs.declared.Moved.TheVariants.{Bytes, Nothing, Failed}
use Rattle.stream.specs.Outcome.{MOST, Right}
use Rattle.stream.specs.declared.End.TheVariants.{Unread, Unended}
use Rattle.pages.specs.Sheet.{figures_lines, Stand, onward, closing, sheet_of}
use Rattle.pages.specs.Standing.{Listed, stand_of, Firm, more, Standing, Closes}
use Rattle.pages.proofs.Splitting.{closing-onward, closing_few}
use Rattle.pages.proofs.Fairness.{fair-onward, fair_owing}

-- nothing is written, which is a beginning of any sheet
pub unwritten : (t : Tape) → t.wrote ≡ [] → Right sheet_of t
unwritten t none later may = (sheet_of (t.read ++ later), ap (λ (l : List ℕ). l ++ sheet_of (t.read ++ later)) (sym none))

-- AFTER A TURN
abbrev onwards : {e : Bool} {n : ℕ} (s : Stand) → Standing e n s → Standing e n (onward s)
onwards s a =
    record {
      tape = a.tape;
      held = a.held;
      mark = a.mark;
      wrote = a.wrote;
      stands = λ later may. a.stands later may ∙ closing-onward s later;
      fair = fair-onward s a.fair;
    }

pub turned : {e : Bool} {n : ℕ} {s q : Stand} → q ≡ onward s → Standing e n s → Standing e n q
turned {e} {n} {s} here a = subst (λ (x : Stand). Standing e n x) (sym here) (onwards s a)

-- AT THE END the lines of the figures are all that is to be written
pub closes : (n m v : ℕ) (bs : List ℕ) (g : Gate) (gs ws fs bk fg : List ℕ) → Firm m g gs ws fs bk fg → Standing true n (stand_of v bs g gs ws fs bk fg) → length bs < 14
    → Closes n g.guests fg
closes n m v bs g gs ws fs bk fg k a few =
    let s = stand_of v bs g gs ws fs bk fg in
    record {
      few = (facts g gs ws fs k.known).counts.guest-count.1;
      room = k.kept.figures_room;
      owing = fair_owing g gs ws fs bk fg a.fair;
      last = record {
        tape = a.tape;
        held = a.held;
        lacks = λ later may.
            a.stands later may
            ∙ ap (λ (l : List ℕ). closing (more s l)) (may a.mark)
            ∙ ap (λ (l : List ℕ). closing (stand_of v l g gs ws fs bk fg)) (append-nil bs)
            ∙ closing_few s few
            ∙ ap (λ (l : List ℕ). l ++ figures_lines 0 (figures_of fg g.guests)) (sym a.wrote);
      };
    }

-- AFTER A READ behind the bytes of the stand
module _ (n m : ℕ) (s : Stand) (w : Moved) (bs : List ℕ) (g : Goes (brought w bs) n m) (a : Standing false n s) where
  -- bytes came
  pub read_more : (k : ℕ) → w ≡ Bytes k → Standing false m (more s (take k bs))
  read_more k e =
      record {
        tape = brought (Bytes k) bs a.tape;
        held = subst (λ (x : Moved). Holds m (brought x bs a.tape)) e (g a.tape a.held);
        mark = refl;
        wrote = a.wrote;
        stands = λ later may.
            ap sheet_of (append_assoc a.tape.read (take k bs) later)
            ∙ a.stands (take k bs ++ later) (λ x. absurd (false≢true (sym a.mark ∙ x)))
            ∙ ap (λ (l : List ℕ). closing (record { version = s.version; bytes = l; page = s.page })) (sym (append_assoc s.bytes (take k bs) later));
        fair = a.fair;
      }

  -- there are no more
  pub read_none : w ≡ Nothing → Standing true m s
  read_none e =
      record {
        tape = brought Nothing bs a.tape;
        held = subst (λ (x : Moved). Holds m (brought x bs a.tape)) e (g a.tape a.held);
        mark = refl;
        wrote = a.wrote;
        stands = λ later may. a.stands later (λ x. absurd (false≢true (sym a.mark ∙ x)));
        fair = a.fair;
      }

  -- it failed
  pub read_failed : w ≡ Failed → Listed Unread m
  read_failed e =
      record {
        tape = brought Failed bs a.tape;
        held = subst (λ (x : Moved). Holds m (brought x bs a.tape)) e (g a.tape a.held);
        right = unwritten (brought Failed bs a.tape) a.wrote;
        ends = refl;
      }

-- THE LOOP: each turn that is made was followed by a read that brought a byte
pub record Pumping (n : ℕ) (s : Stand) (turns : ℕ) : Type 0 where
  pub standing : Standing false n s
  pub count : turns ≤ length standing.tape.read

-- one turn and one read more
pub pumps : (n r : ℕ) (s q : Stand) (turns : ℕ) → q ≡ onward s → (bs : List ℕ) (k : ℕ) → Goes (brought (Bytes k) bs) n r
    → 0 < k → k ≤ length bs → Pumping n s turns → Pumping r (more q (take k bs)) (turns + 1)
unfolding read_more
pumps n r s q turns here bs k g some room a =
    subst (λ (x : Stand). Pumping r (more x (take k bs)) (turns + 1)) (sym here)
    (record {
      standing = read_more n r (onward s) (Bytes k) bs g (onwards s a.standing) k refl;
      count = omega (arith, a.count, length-append a.standing.tape.read (take k bs), length-take-le k bs room);
    })

-- no turn is left
pub pumped_out : (n : ℕ) (s : Stand) (turns : ℕ) → MOST ≤ turns → Pumping n s turns → Listed Unended n
pumped_out n s turns out p =
    let a = p.standing in
    record { tape = a.tape; held = a.held; right = unwritten a.tape a.wrote; ends = omega (arith, p.count, out) }
