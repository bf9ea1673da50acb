-- Laws of propositions written where they stood.
pub mod Sizes
pub mod Places
pub mod Standing
