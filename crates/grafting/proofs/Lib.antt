-- The laws that the proofs of grafting share.
pub mod Levels
pub mod Tests
pub mod Answers
