pub mod FixedPair
