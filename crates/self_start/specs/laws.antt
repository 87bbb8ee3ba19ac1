-- What is proved of the definitions: laws, steps and rows by computation. Nothing here has to be believed.
pub mod Literals
pub mod Sides
pub mod Computes
