pub mod Sheet
pub mod GoodSheets
pub mod SheetExamples
