-- The laws of what a term's labels add.
pub mod Labels
pub mod Numbers
