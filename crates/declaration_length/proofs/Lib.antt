-- The laws of the lengths of declarations.
pub mod Lines
pub mod Sorted
