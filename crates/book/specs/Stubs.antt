-- What the sheet reads of a waiting request: whose it is, its id and its limit tag. Nothing but the sending of a request changes these, so a copy of them
-- beside the waiting table stays true.
use Rattle.std.specs.Prelude.{ℕ}
use Rattle.rules.specs.Tables.{Request}

-- whose request, its id and its limit tag
pub record Stub : Type 0 where
  pub guest : ℕ
  pub id : ℕ
  pub ltag : ℕ

-- the stub of a waiting request
abbrev pub stub : Request → Stub
stub q = record { guest = q.guest; id = q.id; ltag = q.ltag }
