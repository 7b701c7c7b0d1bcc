-- Where each kind of tag stands.
use Rattle.std.specs.Prelude.{ℕ}
use Rattle.table.specs.Columns.{RESERVATION, LIMIT, SHARES}
use Rattle.kinds.specs.declared.Kind.{Kind}
use Rattle.kinds.specs.declared.Kind.TheVariants.{Reservation, Limit, Shares}

-- the column of a kind's setting
abbrev pub column_of : Kind → ℕ
column_of Reservation = RESERVATION
column_of Limit = LIMIT
column_of Shares = SHARES
