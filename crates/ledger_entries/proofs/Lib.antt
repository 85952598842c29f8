pub mod SixKinds
pub mod Entries
