-- What was read and written so far, handed on to crates that cannot open it.
pub use Rattle.tape.specs.Tape.{Tape, blank, Holds}
