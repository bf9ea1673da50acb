pub mod Units
pub mod Chains
pub mod Lone
pub mod Labels
