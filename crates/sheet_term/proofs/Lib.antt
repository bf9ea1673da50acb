pub mod Accepted
pub mod Held
pub mod Answers
