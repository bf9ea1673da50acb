pub mod Located
pub mod Accurate
pub mod Lists
pub mod Asked
pub mod Board
pub mod Searched
pub mod Grafts
pub mod Lengths
