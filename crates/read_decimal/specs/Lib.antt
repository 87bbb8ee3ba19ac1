pub mod Scan
pub mod Decimal
pub mod Parts
