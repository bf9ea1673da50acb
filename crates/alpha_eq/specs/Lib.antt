-- What the functions of the comparison ask and promise.
pub mod Bindings
pub mod Comparing
