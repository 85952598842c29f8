pub mod Cases
pub mod Effects
pub mod OperationEffects
pub mod Ordered
pub mod Outcomes
pub mod Room
pub mod SoundHistory
pub mod Subtracted
