pub mod Fit
pub mod Demand3
pub mod Steps
pub mod Answer
pub mod laws
