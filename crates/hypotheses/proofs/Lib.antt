-- Laws of hypotheses as pairs, of refusal 22 over them, and of the scope that they fill.
pub mod Walking
pub mod Chunks
pub mod Free
pub mod Entering
