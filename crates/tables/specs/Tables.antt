-- What the tables that a program keeps show, and what is known of them.
use Rattle.rules.specs.Tables.{Table}
use Rattle.table.specs.View.{table_of, Known}
use Rattle.tables.specs.declared.Tables.{Tables}

-- the table that they show
abbrev pub table_in : Tables → Table
table_in t = table_of t.gate t.guests t.waiting t.flight

-- they are sound, and known to be
abbrev pub AreKnown : Tables → Type 0
AreKnown t = Known t.gate t.guests t.waiting t.flight
