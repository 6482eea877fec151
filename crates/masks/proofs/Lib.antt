pub mod Lowest
pub mod Adding
pub mod Testing
pub mod Tabling
pub mod Grouping
pub mod Uniting
