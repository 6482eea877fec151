pub mod Tests
pub mod laws
pub mod Counting
pub mod Turns
pub mod LastRound
pub mod Reaching
pub mod Leaving
