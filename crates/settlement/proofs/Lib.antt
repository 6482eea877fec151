pub mod Faults
pub mod Receipts
