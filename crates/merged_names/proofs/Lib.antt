pub mod Knowing
pub mod Storing
pub mod Lowest
pub mod Naming
pub mod Indexing
