-- Propositions as numbers, and what the functions over them say.
pub mod Standing
pub mod Answering
