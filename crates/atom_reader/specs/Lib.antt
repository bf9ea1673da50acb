pub mod Scope
pub mod Reading
