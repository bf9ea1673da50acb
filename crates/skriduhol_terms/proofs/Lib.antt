pub mod Handed
pub mod TermsRead
pub mod Meaning
