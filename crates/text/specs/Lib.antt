-- What the functions say that write the text of a sheet's term.
pub mod Declaring
