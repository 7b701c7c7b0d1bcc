-- A run of events on known numbers: what the loop of `turn_in` keeps, turn by turn. Assumes nothing.
use Prim.Native.Nat.{ℕ, ◌+◌, ◌*◌}
use mathlib.Core.Path.{◌≡◌, sym, ap, ◌∙◌, subst}
use mathlib.Core.List.{List}
use native.Mathlib.Omega.{arith}
use native.Mathlib.Nat.{add-zero}
use lib.ListN.{drop}
use Rattle.rules.specs.declared.Gate.{Gate}
use Rattle.trace.specs.Event.{event_of, events_of}
use Rattle.book.specs.Page.{Page}
use Rattle.tally.specs.Kept.{page_of}
use Rattle.pages.specs.Sheet.{read, page_after}
use Rattle.pages.specs.Standing.{Firm}
use Rattle.pages.proofs.Splitting.{page-none, page-more}

-- a bad event is passed over, and counts as one more
pub firm-passed : (n : ℕ) (g : Gate) (gs ws fs bk fg : List ℕ) → Firm n g gs ws fs bk fg → Firm (n + 1) g gs ws fs bk fg
firm-passed n g gs ws fs bk fg f =
    let k = f.kept in
    record {
      known = f.known;
      kept = record { book_room = k.book_room; figures_room = k.figures_room; matches = k.matches; past = k.past; few = λ i j h l. omega (arith, k.few i j h l) };
    }

-- after i events of the bytes, from the page p on and behind `number` events
pub record Going (v : ℕ) (p : Page) (bs : List ℕ) (number i : ℕ) (g : Gate) (gs ws fs bk fg : List ℕ) : Type 0 where
  pub page : page_of g gs ws fs bk fg ≡ page_after p (events_of v i bs)
  pub firm : Firm (number + i) g gs ws fs bk fg

pub going_none : (v : ℕ) (bs : List ℕ) (number : ℕ) (g : Gate) (gs ws fs bk fg : List ℕ) → Firm number g gs ws fs bk fg → Going v (page_of g gs ws fs bk fg) bs number 0 g gs ws fs bk fg
going_none v bs number g gs ws fs bk fg f =
    record {
      page = sym (page-none v (page_of g gs ws fs bk fg) bs);
      firm = subst (λ (k : ℕ). Firm k g gs ws fs bk fg) (sym (add-zero number)) f;
    }

-- one event more
pub going_next : (v : ℕ) (p : Page) (bs : List ℕ) (number i : ℕ) (g : Gate) (gs ws fs bk fg : List ℕ) (h : Gate) (gs' ws' fs' bk' fg' : List ℕ) → Going v p bs number i g gs ws fs bk fg
    → page_of h gs' ws' fs' bk' fg' ≡ read (page_of g gs ws fs bk fg) (event_of v (drop (i * 14) bs)) → Firm (number + i + 1) h gs' ws' fs' bk' fg'
    → Going v p bs number (i + 1) h gs' ws' fs' bk' fg'
going_next v p bs number i g gs ws fs bk fg h gs' ws' fs' bk' fg' w e f =
    record {
      page = e ∙ ap (λ (x : Page). read x (event_of v (drop (i * 14) bs))) w.page ∙ sym (page-more v p i bs);
      firm = subst (λ (k : ℕ). Firm k h gs' ws' fs' bk' fg') (let r : number + i + 1 ≡ number + (i + 1) = omega arith in r) f;
    }
