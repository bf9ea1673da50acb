-- Steps that the walks of the reader's functions share, and what their answers say.
pub mod Numbers
