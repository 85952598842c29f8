pub mod WordLists
pub mod WordsComeBack
