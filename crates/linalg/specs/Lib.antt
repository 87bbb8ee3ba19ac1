pub mod Elimination
pub mod Loops
pub mod Pair
pub mod laws
