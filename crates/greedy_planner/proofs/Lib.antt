pub mod Ordering
pub mod Insertion
pub mod Walking
pub mod Shifting
pub mod Filling
pub mod Tables
