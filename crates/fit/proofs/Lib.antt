mod Floats
mod Lists
mod Bounds
mod Descent
pub mod Demand3
mod Turns
mod Call
