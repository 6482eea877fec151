pub mod Calls
pub mod Answers
pub mod Lists
pub mod Dispatched
