-- The forms of the three tables are exact: an entry read from its line is that entry, and a line made of its entry that line. Assumes nothing.
use Rattle.std.specs.Prelude.{refl}
use Rattle.std.proofs.Common.{lit<}
use Rattle.lists.specs.Rows.{Exact}
use Rattle.table.specs.View.{guest_form, request_form, flight_form}

-- the numbers of a guest
pub guest_exact : Exact guest_form
guest_exact = record { some = lit< tt; size = λ a. refl; back = λ a. refl; forth = λ v. refl }

-- the numbers of a waiting request
pub request_exact : Exact request_form
request_exact = record { some = lit< tt; size = λ a. refl; back = λ a. refl; forth = λ v. refl }

-- the numbers of a request in flight
pub flight_exact : Exact flight_form
flight_exact = record { some = lit< tt; size = λ a. refl; back = λ a. refl; forth = λ v. refl }
