-- The laws of the text of a sheet's term.
pub mod Accepted
pub mod Labels
pub mod Ends
pub mod Heading
pub mod Renaming
pub mod Arranging
pub mod Declaring
pub mod Longest
