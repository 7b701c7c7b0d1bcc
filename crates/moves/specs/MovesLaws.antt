-- Which entries the numbers show that the functions of src/rows.rt leave: the lists of document 01's definitions, written over what was
-- lent. The rooms suffice, and the unused places are zero.
-- Assumes nothing.
use Rattle.std.specs.Prelude.{ℕ, ◌+◌, ◌*◌, ◌≤◌, ◌<◌, ◌≡◌, List, [], ◌∷◌, ◌++◌, length, get_or}
use Rattle.std.proofs.Math.Path.{refl, ap}
use Rattle.std.proofs.Common.{sym, ◌∙◌, arith}
use Rattle.lists.specs.Tab.{remove_at}
use Rattle.lists.specs.Stores.{stores}
use Rattle.lists.specs.Parts.{zeros}
use Rattle.lists.specs.Lines.{line_at}
use Rattle.lists.specs.Rows.{over_rows, Unused}
use Rattle.lists.specs.RowsLaws.{row-at, row_out, row_in}
use Rattle.lists.specs.FillLaws.{rows_cleared}
use Rattle.rules.specs.Tables.{Request, name}
use Rattle.rules.specs.declared.Flight.{Flight}
use Rattle.table.specs.Columns.{flight_wide, waiting_wide}
use Rattle.table.specs.View.{request_form, flight_form, waiting_of, flights_of}
use Rattle.table.specs.ViewLaws.{request_exact, flight_exact}
use Rattle.moves.specs.Moves.{gone, joined, freed, appended}

-- IN FLIGHT

module _ (depth n : ℕ) (fs : List ℕ) (room : depth * flight_wide ≤ length fs) (unused : Unused flight_form depth n fs) where
  -- a request leaves
  pub freed_is : n ≤ depth → (place : ℕ) → place < n → freed place n fs ≡ over_rows flight_form depth (remove_at place (flights_of fs n)) fs
  freed_is fit place here = row_out flight_form flight_exact depth n fs room fit unused place here

  -- a name stands last
  pub joined_is : n < depth → (ws : List ℕ) (count place : ℕ) → place < count → joined place n ws fs ≡ over_rows flight_form depth (flights_of fs n ++ (name (get_or (waiting_of ws count) place (request_form.read [])) ∷ [])) fs
  joined_is free ws count place here =
      let a : Flight = name (request_form.read (line_at waiting_wide ws place)) in
      let e : joined place n ws fs ≡ stores (λ j. n * flight_wide + j) (λ j. get_or (flight_form.line a) j 0) flight_wide fs = unfold stores in refl in
      e
      ∙ row_in flight_form flight_exact depth n fs room (omega arith) unused a free
      ∙ ap (λ (q : Request). over_rows flight_form depth (flights_of fs n ++ (name q ∷ [])) fs) (sym (row-at request_form ws count place here))

-- WAITING

module _ (cap n : ℕ) (ws : List ℕ) (room : cap * waiting_wide ≤ length ws) (unused : Unused request_form cap n ws) where
  -- a request stands last
  pub appended_is : n < cap → (q : Request) → appended n q ws ≡ over_rows request_form cap (waiting_of ws n ++ (q ∷ [])) ws
  appended_is free q = row_in request_form request_exact cap n ws room (omega arith) unused q free

  -- a request goes
  pub gone_is : n ≤ cap → (place : ℕ) → place < n → gone place n ws ≡ over_rows request_form cap (remove_at place (waiting_of ws n)) ws
  gone_is fit place here = row_out request_form request_exact cap n ws room fit unused place here

-- AT OPENING; what `start` gives the guests, its contract says

-- nothing waits
pub cleared_waiting : (cap : ℕ) (ws : List ℕ) → cap * waiting_wide ≤ length ws → zeros ws (cap * waiting_wide) ≡ over_rows request_form cap [] ws
cleared_waiting cap ws room = rows_cleared request_form request_exact cap ws room

-- nothing is in flight
pub cleared_flight : (depth : ℕ) (fs : List ℕ) → depth * flight_wide ≤ length fs → zeros fs (depth * flight_wide) ≡ over_rows flight_form depth [] fs
cleared_flight depth fs room = rows_cleared flight_form flight_exact depth fs room
