-- The laws of the comparison.
pub mod Bindings
pub mod Outcomes
pub mod Standing
pub mod Parameters
pub mod Atoms
pub mod Sides
pub mod Scopes
pub mod Forms
pub mod Decisions
