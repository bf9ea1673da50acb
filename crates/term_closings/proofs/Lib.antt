pub mod Tops
pub mod Taken
pub mod Enclosed
pub mod Paired
pub mod Bodies
pub mod Branches
pub mod Ascribed
pub mod Chained
