pub mod Sound
pub mod Examples
pub mod Rows
