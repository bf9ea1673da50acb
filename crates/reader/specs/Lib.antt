-- What is read at a position of a sheet.
pub mod Reading
