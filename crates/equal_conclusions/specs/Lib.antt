-- What the functions that compare conclusions ask and promise.
pub mod Equality
