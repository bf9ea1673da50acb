-- The laws of the numbers of a list.
pub mod Numbers
