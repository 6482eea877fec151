pub mod Asked
pub mod Cells
