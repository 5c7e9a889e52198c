pub mod Moment
pub mod Found
pub mod Promises
pub mod Steps
