pub mod Golden
pub mod Search
pub mod Demand3
pub mod laws
