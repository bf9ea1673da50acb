pub mod Writing
pub mod Numbers
pub mod Filling
pub mod Digits
