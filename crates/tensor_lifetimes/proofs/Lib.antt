pub mod LifetimeEnds
pub mod OneUse
pub mod Gathering
pub mod Judging
