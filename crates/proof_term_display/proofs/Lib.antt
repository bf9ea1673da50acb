pub mod Tables
pub mod Labels
pub mod Items
pub mod Formats
pub mod Ready
pub mod Progress
pub mod Parts
pub mod Ascriptions
