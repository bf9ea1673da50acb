pub mod Memory
pub mod Promises
pub mod Lent
