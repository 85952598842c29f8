pub mod LedgerExample
pub mod LedgerLengths
