pub mod EveryOnce
pub mod Counts
