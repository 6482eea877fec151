pub mod Vessels
