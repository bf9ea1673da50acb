-- The laws that the proofs of the checks share, and what an accepted sheet gives to the layers above.
pub mod Searched
pub mod Slices
pub mod Placed
pub mod Stages
pub mod Order
pub mod Short
pub mod Given
pub mod Admitted
pub mod NamesAndCode
pub mod Indexing
pub mod RootHeight
