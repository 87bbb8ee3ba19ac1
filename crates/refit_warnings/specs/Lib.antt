pub mod Warnings
pub mod Told
