-- The laws of the table of labels, and of how a label is looked up.
pub mod Labels
mod Cuts
mod Groups
mod Arms
