pub mod Profile
pub mod Answer
pub mod laws
