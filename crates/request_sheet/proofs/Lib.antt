pub mod Lent
pub mod Writing
