pub mod Penalized
pub mod Normal
pub mod laws
