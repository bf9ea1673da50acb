pub mod Indexed
pub mod Answered
pub mod Onward
