pub mod Refit
