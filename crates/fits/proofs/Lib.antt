-- Laws of the test on the tables.
pub mod Alone
mod Stepped
pub mod Walked
pub mod Whole
