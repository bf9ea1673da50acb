-- What the functions say that write a proposition's code and a step over other name numbers.
pub mod Renumbered
pub mod StepOver
