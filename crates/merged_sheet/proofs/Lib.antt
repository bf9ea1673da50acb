-- The laws that the proofs of merged_sheet share.
pub mod Bytes
pub mod Answers
