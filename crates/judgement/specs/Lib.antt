-- What a judgement of a sheet's own term asks, and what is answered.
pub mod Asked
pub mod Answered
