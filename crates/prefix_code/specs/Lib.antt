-- What the functions over prefix code say.
pub mod Scan
pub mod Head
pub mod PropAt
pub mod Shape
pub mod Row
