-- What the functions that sort declarations say.
pub mod Sorted
pub mod Ranked
