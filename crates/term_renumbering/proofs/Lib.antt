-- Laws of records over other names.
pub mod Numbers
pub mod Terms
