pub mod Normal
pub mod Writing
pub mod Steps
