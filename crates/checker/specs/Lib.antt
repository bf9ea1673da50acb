-- What checking and inferring over records say.
pub mod Scope
pub mod Asking
pub mod Judging
pub mod Helping
