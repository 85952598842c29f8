pub mod Text
pub mod TextLengths
