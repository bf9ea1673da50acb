pub mod Between
pub mod Whole
pub mod Answered
