pub mod Insertion
pub mod Fronts
pub mod Sides
pub mod Binders
pub mod Constants
