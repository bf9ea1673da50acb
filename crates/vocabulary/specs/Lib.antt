-- What a vocabulary says of a memory.
pub mod Vocabulary
pub mod Memory
