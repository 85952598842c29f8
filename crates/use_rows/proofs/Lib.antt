pub mod Tests
pub mod IndexFound
