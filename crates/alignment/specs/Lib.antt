pub mod Rounding
pub mod Powers
pub mod Alignments
