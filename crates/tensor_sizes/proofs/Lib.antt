pub mod Codes
pub mod AnyOrder
pub mod Capped
pub mod ElementBytes
pub mod SizeExamples
pub mod SizeLaws
pub mod SizeOutcomes
