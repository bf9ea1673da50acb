-- The laws of the comparison of two steps.
pub mod Codes
pub mod Conclusions
pub mod Steps
pub mod Textbook
