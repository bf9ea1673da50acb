-- Laws of refusal 22's tests.
pub mod Fives
pub mod Plain
pub mod Cut
pub mod Terms
