pub mod Whole
pub mod Ring
