-- The laws that the proofs of equal_conclusions share.
pub mod Codes
pub mod Conclusions
