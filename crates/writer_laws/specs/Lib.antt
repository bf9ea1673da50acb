pub mod Fitting
pub mod Restates
