-- What the functions of the comparison of two steps ask and promise.
pub mod Conclusions
