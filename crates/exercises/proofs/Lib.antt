pub mod Counted
pub mod Leaf
pub mod Unranked
pub mod Counting
pub mod Answering
