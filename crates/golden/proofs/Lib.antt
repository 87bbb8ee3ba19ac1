mod Near
mod Ops
mod Table
mod Points
pub mod Demand3
mod Loop
mod Room
