pub mod Answers
pub mod ExactRule
pub mod FirstEntries
pub mod Outcomes
