-- What the functions over lengths say.
pub mod Length
