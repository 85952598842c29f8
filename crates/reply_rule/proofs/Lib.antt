pub mod Outcomes
pub mod Replies
pub mod SheetA
