pub mod Ledger
pub mod Kinds
pub mod Balance
pub mod Recording
pub mod RecordedHistory
pub mod Cases
pub mod SoundLedger
