pub mod Signs
pub mod Named
pub mod Rows
