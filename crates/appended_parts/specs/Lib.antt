-- What the functions that append ask and promise.
pub mod Appended
