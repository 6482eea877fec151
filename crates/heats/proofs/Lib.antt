pub mod Limits
pub mod Rising
