pub mod Handed
pub mod Grafts
pub mod Judged
pub mod TermsRead
