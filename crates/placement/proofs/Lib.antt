pub mod EmptyRows
pub mod LowestFree
pub mod Put
pub mod WalkReachesLowest
