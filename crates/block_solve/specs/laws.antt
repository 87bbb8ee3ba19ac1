-- What is proved of the definitions: laws, steps and rows by computation. Nothing here has to be believed.
pub mod Blocks
pub mod Computes
pub mod Direction
pub mod Normal
pub mod Steps
