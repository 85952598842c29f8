pub mod Written
pub mod AllOrNothing
