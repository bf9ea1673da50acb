pub mod Downward
pub mod Failing
