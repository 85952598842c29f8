pub mod PastIgnored
pub mod ShapeAnswers
pub mod ShapeOutcomes
pub mod SizedRows
