-- The laws of rows of propositions and of the entries in them.
pub mod Rows
pub mod Shapes
pub mod Writes
