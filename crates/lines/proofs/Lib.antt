pub mod Decimal
pub mod LineLaws
pub mod PutLaws
