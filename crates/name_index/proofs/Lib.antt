-- The laws that the proofs of the index share.
pub mod AnyName
pub mod Probing
pub mod Entering
