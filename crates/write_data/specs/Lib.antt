pub mod EpochTexts
pub mod Records
