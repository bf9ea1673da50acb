-- The laws that the proofs of restating share.
pub mod Bytes
pub mod Tests
pub mod Answers
