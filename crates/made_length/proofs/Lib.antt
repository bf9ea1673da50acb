-- What is made fits the room of the longest.
pub mod Enough
pub mod Rooms
