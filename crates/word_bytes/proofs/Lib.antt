pub mod Casts
pub mod Turned
pub mod BytesComeBack
pub mod BytesExamples
