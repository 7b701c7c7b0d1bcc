-- The header in the first bytes: how the program goes on from there. Assumes nothing.
use Prim.Native.Nat.{ℕ}
use mathlib.Core.Path.{◌≡◌, sym, ◌∙◌, subst}
use mathlib.Core.Bool.{Bool, true}
use mathlib.Core.List.{List}
use lib.Dec.{ltb}
use lib.ListN.{length}
use Rattle.rules.specs.declared.Refusal.{Refusal}
use Rattle.lines.specs.Line.{refusal_line, title_line}
use Rattle.stream.specs.Runs.{written, Emits}
use Rattle.stream.specs.Outcome.{Next, Last, First}
use Rattle.trace.specs.Header.{header_of}
use Rattle.trace.specs.Printed.{Place, begun, printed}
use Rattle.prints.specs.Standing.{Standing}
use Rattle.prints.proofs.Stands.{refused-lacks, opened-stands, stands_right}
use Rattle.std.specs.Prelude.{Ok, Err}
use Rattle.trace.specs.declared.Opened.{Opened}

-- A BAD HEADER: its line is the last
pub refused_last : (n : ℕ) (bs : List ℕ) (why : Refusal) → First n bs → header_of bs ≡ Err why → Last printed n (refusal_line why)
refused_last n bs why f e = record { tape = f.tape; held = f.held; lacks = refused-lacks n bs f why e }

-- A GOOD HEADER
module _ (n : ℕ) (bs : List ℕ) (o : Opened) (f : First n bs) (e : header_of bs ≡ Ok o) where
  -- the header line comes next
  pub title_next : Next printed n title_line
  title_next =
      record {
        tape = f.tape;
        held = f.held;
        right = stands_right (written title_line f.tape) (begun o bs) (opened-stands n bs f o e);
      }

  -- and then the events
  pub title_standing : (m : ℕ) (b ended : Bool) (p : Place) → Emits b title_line n m → b ≡ true → ltb (length bs) 4096 ≡ ended → p ≡ begun o bs → Standing ended m p
  title_standing m b ended p emits good mark here =
      subst (λ (x : Place). Standing ended m x) (sym here)
      (record {
        tape = written title_line f.tape;
        held = subst (λ (x : Bool). Emits x title_line n m) good emits f.tape f.held;
        mark = f.mark ∙ mark;
        stands = opened-stands n bs f o e;
      })
