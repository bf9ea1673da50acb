pub mod Beginning
pub mod Parameters
