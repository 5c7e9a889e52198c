pub mod Summarizes
pub mod Count
