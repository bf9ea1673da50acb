-- What the contracts of the step records cite beside document 01's definitions.
pub mod Records
pub mod Size
pub mod Tables
pub mod StepAt
pub mod Rules
pub mod Fields
