pub mod Text
pub mod laws
