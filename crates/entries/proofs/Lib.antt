pub mod AllRows
pub mod ByForm
pub mod RowTests
