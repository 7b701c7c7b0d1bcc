-- The walk goes from the last row to the first: every row behind it has passed.
use Rattle.table.specs.View.{request_form}
use Rattle.entries.specs.Tests.{fits}
use Rattle.entries.proofs.AllRows.{Passed}
use Rattle.entries.proofs.requests.all_fit.Given as goal

abbrev pub invariant-loop-i : goal.invariant-loop-i
invariant-loop-i l = Passed request_form.wide (λ v. fits (request_form.read v)) l.waiting l.count l.i
