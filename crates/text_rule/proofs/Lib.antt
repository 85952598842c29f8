pub mod TextCases
pub mod TextExamples
pub mod TextLengths
pub mod TextOfOffsets
