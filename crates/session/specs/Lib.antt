pub mod Session
pub mod Paging
