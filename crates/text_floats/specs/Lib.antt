pub mod Floats
pub mod laws
