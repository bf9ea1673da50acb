-- What it is that a term in records is over other name numbers.
pub mod Over
