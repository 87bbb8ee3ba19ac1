pub mod Normal
pub mod Blocks
pub mod Direction
pub mod laws
