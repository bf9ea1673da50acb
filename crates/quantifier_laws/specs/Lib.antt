-- Document 02, ticket 12, as definitions: sound steps, checking rules, labels and the accuracy statement with quantifiers.
pub mod Instantiation
pub mod Rules
pub mod Checker
pub mod Sound
pub mod CheckAnswers
pub mod Labels
pub mod Accuracy
pub mod Closures
pub mod Drawings
