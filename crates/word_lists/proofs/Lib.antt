pub mod Turns
pub mod WordsComeBack
