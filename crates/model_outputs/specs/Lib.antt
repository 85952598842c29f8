pub mod OutputsRead
pub mod OutputsExample
