pub mod Lawfulness
pub mod Sorting
pub mod Declarations
pub mod Merging
pub mod Datatypes
