-- The laws of codes in bytes.
pub mod Positions
pub mod Runs
pub mod Parameters
pub mod Heads
pub mod Propositions
pub mod Rows
pub mod Forms
pub mod Depth
pub mod Whole
pub mod Reading
pub mod Shapes
pub mod Fronts
