pub mod Ordered
pub mod Sorted
pub mod Merging
