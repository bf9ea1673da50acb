pub mod Places
pub mod Names
pub mod Table
pub mod Starts
