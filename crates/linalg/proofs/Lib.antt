pub mod Examples
pub mod Rows
pub mod TwoEquations
