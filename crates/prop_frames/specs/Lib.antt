pub mod Fronts
pub mod Sides
