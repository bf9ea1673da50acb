mod Handing
pub mod Numbers
pub mod Grafts
pub mod Judged
pub mod TermsRead
