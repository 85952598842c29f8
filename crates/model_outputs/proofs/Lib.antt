pub mod OutputsExample
pub mod OutputsRead
