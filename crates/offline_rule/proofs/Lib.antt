pub mod Answers
pub mod FinalTables
pub mod Outcomes
pub mod RoundTrips
