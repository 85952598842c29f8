pub mod Greedy
pub mod Plan
pub mod GreedyOrder
pub mod LowestPlace
pub mod Answers
pub mod DonePlans
pub mod Demand2
