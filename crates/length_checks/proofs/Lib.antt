pub mod LengthAnswers
