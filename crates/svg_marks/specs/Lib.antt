pub mod Escape
pub mod Marks
