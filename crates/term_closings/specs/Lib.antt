pub mod Branching
pub mod Giving
