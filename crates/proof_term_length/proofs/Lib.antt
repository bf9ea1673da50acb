-- The laws of the length of a term's text.
pub mod Sums
pub mod Counting
pub mod Fitting
pub mod Progress
pub mod Tables
