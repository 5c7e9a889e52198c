pub mod Labels
pub mod Groups
