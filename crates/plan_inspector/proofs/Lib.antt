pub mod FirstPairs
