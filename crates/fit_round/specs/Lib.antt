pub mod Round
pub mod Steps
pub mod Rounds
pub mod laws
