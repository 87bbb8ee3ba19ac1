pub mod Lists
pub mod Constants
pub mod Project
pub mod Trial
pub mod Sized
pub mod laws
