-- What the measuring of a term says.
pub mod Measure
pub mod OfMeasure
