pub mod Starts
pub mod Arrays
pub mod Judged
