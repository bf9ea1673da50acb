pub mod Checks
pub mod Assembling
pub mod Records
pub mod Places
pub mod Restating
