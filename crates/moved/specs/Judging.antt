-- What the functions within the crate tell each other.
use Rattle.std.specs.Prelude.{ℕ, ◌+◌, ◌*◌, ◌≤◌, ◌<◌, ◌≡◌, List, length, Option, Result, Ok, Err}
use Rattle.std.specs.declared.num.NonZeroU64.{NonZeroU64}
use Rattle.rules.specs.declared.Refusal.TheVariants.{BadEvent}
use Rattle.trace.specs.Little.{byte_at}
use Rattle.trace.specs.Header.{body, version_of, guests_of, rule_of}
use Rattle.trace.specs.Event.{kind_in, whole, Read}
use Rattle.trace.specs.Answers.{event_bytes}
use Rattle.moved.specs.Moves.{is_bad, is_dear, first_that, event_number}
use Rattle.moved.specs.declared.Stopped.{Stopped}

-- the events were looked at: none is bad, and this is the first arrival of another cost; or the first bad one is refused
abbrev pub Surveyed : List Read → Result (Option NonZeroU64) Stopped → Type 0
Surveyed rs (Ok dear) = (first_that is_bad 0 rs ≡ 0) × (event_number dear ≡ first_that is_dear 0 rs)
Surveyed rs (Err s) = (s.why ≡ BadEvent) × (0 < event_number s.event) × (event_number s.event ≡ first_that is_bad 0 rs)

-- what a good header says
pub record Headed (version guests rule : ℕ) (bs : List ℕ) : Type 0 where
  pub version_is : version ≡ version_of bs
  pub guests_is : guests ≡ guests_of bs
  pub rule_is : rule ≡ rule_of bs
  pub few : guests < 256
  pub whole : body version guests ≤ length bs

-- the first byte of an event is its kind: its upper part, where it has one, is zero
pub record Bare (version byte : ℕ) : Type 0 where
  pub same : kind_in version byte ≡ byte
  pub small : byte < 4

-- the bytes are whole events whose first bytes are
pub record AllBare (version : ℕ) (bs : List ℕ) : Type 0 where
  pub uncut : whole bs * 14 ≡ length bs
  pub each : (k : ℕ) → k < whole bs → Bare version (byte_at bs (k * 14))

-- a trace that is to be moved, into room of so many bytes
pub record Fit (version to : ℕ) (bs : List ℕ) (room : ℕ) : Type 0 where
  pub known : to < 256
  pub version_is : version ≡ version_of bs
  pub long : 9 ≤ length bs
  pub few : guests_of bs < 256
  pub whole : body version (guests_of bs) ≤ length bs
  pub bare : AllBare version (event_bytes bs)
  pub enough : body to (guests_of bs) + length (event_bytes bs) ≤ room
