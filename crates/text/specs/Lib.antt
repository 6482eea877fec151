pub mod Text
pub mod Print
pub mod Ledger
pub mod Page
pub mod Printer
