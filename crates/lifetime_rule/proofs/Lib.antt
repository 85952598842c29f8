pub mod Answers
pub mod GoodUses
pub mod Naming
pub mod OnlyOutputs
pub mod Outcomes
pub mod SoundLifetimes
