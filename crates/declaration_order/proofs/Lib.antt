-- The laws of sorting declarations.
pub mod Permuted
pub mod Comparing
