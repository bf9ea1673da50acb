-- The laws of propositions in bytes.
pub mod Filling
pub mod Marks
pub mod Parts
pub mod Shown
pub mod Strengths
pub mod Atoms
pub mod Shapes
