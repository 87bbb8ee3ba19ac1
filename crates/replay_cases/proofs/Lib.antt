pub mod Numbers
pub mod Elements
pub mod Saying
pub mod Equality
pub mod Counts
mod Reading
