pub mod Agq
pub mod laws
