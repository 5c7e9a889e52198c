pub mod Field
pub mod Found
pub mod Reading
pub mod Steps
