-- Laws of a sheet's own term over the lowest numbers of its names, and of the answer.
pub mod Renaming
pub mod Numbering
pub mod Standing
pub mod Asking
pub mod Answers
