pub mod CheckerSound
pub mod CheckerNodes
pub mod Answered
pub mod EveryStep
pub mod Checkable
pub mod SoundJudgement
pub mod Uses
