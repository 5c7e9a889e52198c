pub mod Ending
pub mod Reached
pub mod Step
