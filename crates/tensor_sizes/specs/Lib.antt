pub mod ByteSize
pub mod Elements
