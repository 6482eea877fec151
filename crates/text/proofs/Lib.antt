pub mod Printing
pub mod Columns
pub mod Lent
pub mod Signs
pub mod Worked
