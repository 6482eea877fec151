pub mod Rounds
pub mod Levels
pub mod Evening
pub mod Only
pub mod Fairness
pub mod Within
pub mod Balance
pub mod Worked
