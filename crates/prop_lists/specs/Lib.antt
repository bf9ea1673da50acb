-- What the functions that list a proposition's atoms and datatypes say.
pub mod Row
pub mod Entries
pub mod UseSinkLaws
pub mod Numbered
