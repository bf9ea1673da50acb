pub mod Writes
pub mod Parameters
pub mod Heads
pub mod Rows
pub mod Steps
pub mod Donor
