-- What the functions of grafting ask and promise.
pub mod Answered
