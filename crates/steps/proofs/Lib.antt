pub mod LastTrees
pub mod Premisses
pub mod Walk
pub mod Deepest
pub mod Tables
pub mod Filling
pub mod StepAt
pub mod GoodSteps
