pub mod Records
pub mod Views
pub mod Labels
pub mod Fitting
pub mod Counting
pub mod Tally
pub mod Making
pub mod NodeLabels
