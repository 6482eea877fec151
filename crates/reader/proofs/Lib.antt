pub mod Reading
pub mod Calling
pub mod Cutting
pub mod Splitting
pub mod Form
pub mod Worked
