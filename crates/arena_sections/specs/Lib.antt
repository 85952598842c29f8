pub mod Sections
pub mod Ordered
pub mod History
pub mod Effects
pub mod SoundHistory
pub mod Cases
pub mod Outcomes
