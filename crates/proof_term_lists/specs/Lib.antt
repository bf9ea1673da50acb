-- What the functions that list what a term's labels add say.
pub mod Labels
pub mod Numbers
