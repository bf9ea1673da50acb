pub mod Class
pub mod Pairs
