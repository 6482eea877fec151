pub mod Each
pub mod HeatTables
pub mod Numerators
