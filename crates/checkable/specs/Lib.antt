-- What the tests of refusal 22 ask.
pub mod Plain
pub mod Terms
