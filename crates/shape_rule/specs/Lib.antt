pub mod ShapeTable
pub mod Sized
pub mod ShapeAnswers
pub mod ShapeOutcomes
