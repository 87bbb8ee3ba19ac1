pub mod Framing
pub mod Picture
