pub mod PlainSearch
pub mod FreeSlot
pub mod Entering
pub mod Agreement
pub mod Onward
pub mod Uses
