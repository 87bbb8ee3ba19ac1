pub mod Classes
pub mod Faults
pub mod Header
pub mod Row
pub mod Table
