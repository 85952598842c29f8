pub mod LedgerText
pub mod LedgerLengths
