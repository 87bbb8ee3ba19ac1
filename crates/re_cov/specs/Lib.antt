pub mod ReCov
pub mod laws
