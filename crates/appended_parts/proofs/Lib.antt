-- The laws that the proofs of appended_parts share.
pub mod Pieces
pub mod Short
pub mod Turns
