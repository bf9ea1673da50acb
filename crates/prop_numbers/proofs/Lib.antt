-- Laws of propositions as numbers.
pub mod Equality
pub mod Alike
pub mod Bytes
pub mod Fronts
pub mod Reps
pub mod Opening
pub mod Halves
pub mod Comparing
