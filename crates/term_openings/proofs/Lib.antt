pub mod Noting
pub mod ClosedTerms
pub mod FirstWords
pub mod StoredLabels
pub mod ParameterLabels
pub mod Functions
pub mod Dispatch
