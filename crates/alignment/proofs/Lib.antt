pub mod Bits
pub mod Masks
pub mod NoGrid
pub mod Alignments
pub mod Powers
pub mod Rounding
