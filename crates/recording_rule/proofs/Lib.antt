pub mod Balance
pub mod Cases
pub mod NamedKinds
pub mod Outcomes
pub mod SoundLedger
