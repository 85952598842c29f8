pub mod FixedPairs
