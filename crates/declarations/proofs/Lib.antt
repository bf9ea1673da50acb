-- The laws of first occurrences and of the declarations in lent memory.
pub mod Firsts
pub mod Declared
pub mod Chains
pub mod Search
pub mod Noting
pub mod Lines
