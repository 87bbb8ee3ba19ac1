pub mod Subject
pub mod Ranges
pub mod Axes
pub mod Frame
