-- What the laws of a read term's memory speak of.
pub mod Offsets
pub mod Memory
