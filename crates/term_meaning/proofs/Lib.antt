-- The laws of the memory of a term that was read.
pub mod Rows
pub mod Laid
pub mod Offsets
pub mod Meaning
pub mod Names
pub mod Places
pub mod Codes
pub mod ReadTerm
pub mod Drawn
