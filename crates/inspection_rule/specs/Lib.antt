pub mod Inspect
pub mod Answers
pub mod ExactRule
pub mod Outcomes
