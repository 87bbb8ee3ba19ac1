pub mod Problem
pub mod Valid
pub mod Given
pub mod Faults
pub mod laws
