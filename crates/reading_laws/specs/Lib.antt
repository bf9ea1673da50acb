pub mod Coded
pub mod Restoring
pub mod TermMachine
pub mod Marks
