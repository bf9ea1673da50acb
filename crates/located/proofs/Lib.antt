pub mod AfterHeader
pub mod Columns
pub mod Lines
pub mod Back
