pub mod TermRecords
pub mod NameNumbers
pub mod Turns
pub mod Ends
pub mod Passes
pub mod Handed
