pub mod OfflinePlan
pub mod Answers
pub mod FinalTables
pub mod RoundTrips
