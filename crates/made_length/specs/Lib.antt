-- What is made, given room.
pub mod Whole
