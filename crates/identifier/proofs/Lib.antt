pub mod Table
pub mod Following
pub mod Equality
pub mod Within
pub mod Comparing
