-- What the functions that find an exercise say.
pub mod Names
pub mod Sizes
