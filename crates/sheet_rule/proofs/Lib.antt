pub mod GoodSheets
pub mod ReadSheets
pub mod SheetExamples
