pub mod Decimals
pub mod DigitByDigit
pub mod SpelledCases
pub mod SpelledExamples
pub mod SpelledNumbers
