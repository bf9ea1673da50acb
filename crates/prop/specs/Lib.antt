-- What the functions over propositions say.
pub mod Ends
pub mod Printing
pub mod Propositions
