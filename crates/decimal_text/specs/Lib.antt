pub mod Spelled
pub mod DigitByDigit
pub mod Decimal
pub mod Decimals
