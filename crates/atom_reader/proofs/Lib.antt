pub mod Readings
pub mod Storing
pub mod Sizes
pub mod Scopes
pub mod Parameters
pub mod Atoms
