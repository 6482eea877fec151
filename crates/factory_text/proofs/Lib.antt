pub mod Calling
pub mod Form
pub mod Printing
pub mod Listing
pub mod Worked
