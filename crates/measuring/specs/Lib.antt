pub mod Party
