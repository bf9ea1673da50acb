pub mod Wrote
pub mod Written
pub mod Joins
pub mod SinkLaws
pub mod Sinks
pub mod Laws
pub mod LeastDigits
pub mod Numbers
