-- Laws of value fields.
mod Points
pub mod Answered
pub mod States
