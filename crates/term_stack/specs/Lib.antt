pub mod Forms
pub mod Growing
pub mod Numbers
pub mod Standing
pub mod Turning
pub mod Using
