pub mod Records
pub mod Views
pub mod Forms
pub mod Labels
pub mod Tally
pub mod Making
pub mod Readable
pub mod InPlace
