-- What the printing of a term says.
pub mod Brackets
pub mod Format
pub mod Printable
pub mod Item
pub mod Ascriptions
pub mod Printer
