pub mod laws
pub mod Reading
