-- What the writer of merged sheets asks and promises.
pub mod Parts
pub mod Merging
