-- What is proved of the definitions: laws, steps and rows by computation. Nothing here has to be believed.
pub mod Computes
pub mod Lists
pub mod Loops
pub mod Numbers
pub mod Order
pub mod Parts
pub mod Zips
pub mod Literals
