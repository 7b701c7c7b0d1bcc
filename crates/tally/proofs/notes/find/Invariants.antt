use Rattle.tally.proofs.Places.{NoneBefore}
use Rattle.tally.proofs.notes.find.Given as goal

-- no note before the place reached has the name
abbrev pub invariant-loop-place : goal.invariant-loop-place
invariant-loop-place l = NoneBefore l.book l.guest l.id l.place
