-- What the functions that note declarations and write them say.
pub mod Chains
pub mod Memory
pub mod Lines
pub mod Noted
