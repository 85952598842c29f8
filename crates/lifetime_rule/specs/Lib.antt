pub mod Uses
pub mod Lifetimes
pub mod FromUses
pub mod Answers
pub mod GoodUses
pub mod Naming
pub mod SoundLifetimes
pub mod OnlyOutputs
