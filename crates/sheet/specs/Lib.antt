-- What the contracts of the sheet cite beside document 01's definitions.
pub mod Header
pub mod Pairs
pub mod Checks
pub mod Sizes
pub mod Admitted
