-- What the functions of restating ask and promise.
pub mod Step
pub mod Slots
