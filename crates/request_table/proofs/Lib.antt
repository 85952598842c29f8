pub mod CheckLaws
pub mod CheckOutcomes
pub mod Colliding
pub mod CollidingWords
pub mod GoodRows
pub mod Needs
pub mod WellFormed
