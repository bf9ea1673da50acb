-- Hypotheses as pairs of numbers, and the scope that they fill.
pub mod Pairs
pub mod Entered
