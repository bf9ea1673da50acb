pub mod Splicing
pub mod Levels
pub mod Scope
pub mod Missing
pub mod Numbers
pub mod Merges
