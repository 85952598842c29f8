pub mod Placing
pub mod Walk
pub mod Put
pub mod LowestFree
pub mod WalkReachesLowest
