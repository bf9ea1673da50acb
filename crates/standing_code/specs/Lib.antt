-- What it is that propositions stand over other name numbers.
pub mod Over
