pub mod Starting
pub mod Paging
