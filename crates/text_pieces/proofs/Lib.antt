pub mod Pieces
pub mod Put
pub mod Replied
