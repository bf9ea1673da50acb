-- Laws of checking and inferring, form by form, and the arms of the two functions, call by call.
pub mod Answers
pub mod Scopes
pub mod Sides
pub mod Inferring
pub mod Checking
pub mod Forms
pub mod Fallback
pub mod Steps
pub mod Parts
pub mod Labels
pub mod Cases
pub mod CheckArms
pub mod InferArms
