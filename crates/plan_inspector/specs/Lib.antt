pub mod FirstPair
