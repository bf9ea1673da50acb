pub mod EveryOnce
pub mod Counts
pub mod Ordinals
pub mod Codes
