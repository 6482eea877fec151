pub mod Loaded
pub mod Numbers
pub mod Written
