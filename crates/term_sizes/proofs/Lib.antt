pub mod Kept
pub mod Filling
pub mod Counting
