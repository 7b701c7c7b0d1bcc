-- The search along the rows of a guest: what it knows at a number of the index, and what it answers. Assumes nothing.
use Rattle.std.specs.Prelude.{ℕ, ◌+◌, ◌-◌, ◌≤◌, ◌<◌, ◌≡◌, Bool, true, false, not, List}
use Rattle.std.proofs.Common.{arith}
use Rattle.table.specs.Columns.{ID, most_guests, waiting_at}
use Rattle.walks.specs.Survey.{idle_in}
use Rattle.walks.specs.SurveyLaws.{Behind, search_end, lacks_in, lacks_not}
use Rattle.index.specs.Index.{first_at, next_at, Leads, Indexed}
use Rattle.index.proofs.Laws.{leads-fits, Passed, passed_none, passed-next, passed-all}
use Rattle.seeks.specs.Reads.{row_here, row_next}

-- row k has another id
abbrev Differs : (ws : List ℕ) (id k : ℕ) → Type 0
Differs ws id k = waiting_at ws k ID ≡ id → ⊥

-- no row of the guest before `from` is this request, and the number x leads on from there
pub record Sought (ws : List ℕ) (n g id x : ℕ) : Type 0 where
  pub from : ℕ
  pub leads : Leads ws g from n x
  pub fits : x ≤ n
  pub lacking : Passed (Differs ws id) ws g from

module _ {ws ix : List ℕ} {n : ℕ} (i : Indexed ws ix n) (g id : ℕ) where
  -- at the guest's first row
  pub sought_start : g < most_guests → Sought ws n g id (first_at ix g)
  sought_start h = record { from = 0; leads = i.first g h; fits = leads-fits (i.first g h); lacking = passed_none (Differs ws id) ws g }

  -- a row that is another request
  pub sought_next : {x : ℕ} → Sought ws n g id x → 0 < x → (waiting_at ws (x - 1) ID ≡ id → ⊥) → Sought ws n g id (next_at ix (x - 1))
  sought_next {x} s more other =
      record {
        from = x - 1 + 1;
        leads = row_next s.leads more i;
        fits = leads-fits (row_next s.leads more i);
        lacking = passed-next (Differs ws id) ws g s.from (x - 1) s.lacking (row_here s.leads more).1 other;
      }

  -- a row that is this request
  pub sought_hit : {x : ℕ} → Sought ws n g id x → 0 < x → waiting_at ws (x - 1) ID ≡ id → lacks_in ws n g id ≡ false
  sought_hit {x} s more e = let r = row_here s.leads more in lacks_not ws g id n (x - 1) r.0 r.1.own e

  -- behind the last row none is this request, and whether the guest has one says whether it is idle
  pub sought_end : {x : ℕ} → Sought ws n g id x → x ≤ 0 → (b : Bool) → Behind ws n g 0 b → (lacks_in ws n g id ≡ true) × (idle_in ws n g ≡ not b)
  sought_end {x} s done b has =
      let all = passed-all (Differs ws id) ws g s.from n s.lacking (s.leads.none (omega (arith, done))) in
      search_end ws n g id {waits = b} (record { lacking = λ k l m own. all k m own; idling = has }) (omega arith)

  module _ (h : g < most_guests) where
    -- a guest without a first row has none
    pub none-waits : first_at ix g ≡ 0 → Behind ws n g 0 false
    none-waits e = (i.first g h).none e

    -- one with a first row has that
    pub some-waits : 0 < first_at ix g → Behind ws n g 0 true
    some-waits more = let r = row_here (i.first g h) more in (first_at ix g - 1, omega arith, r.0, r.1.own)
