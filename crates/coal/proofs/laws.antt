pub mod Bounds
pub mod Deduction
pub mod HeatTable
pub mod Limits
pub mod Over
pub mod Rounding
