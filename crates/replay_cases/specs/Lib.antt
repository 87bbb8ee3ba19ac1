pub mod Same
pub mod Lent
pub mod Digits
pub mod Words
pub mod Lines
pub mod Tally
pub mod Counts
