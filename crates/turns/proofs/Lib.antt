pub mod Sorted
pub mod Line
pub mod LineMoves
pub mod Turn
pub mod Demand3
pub mod TurnAt
pub mod Ticks
pub mod WakeFits
