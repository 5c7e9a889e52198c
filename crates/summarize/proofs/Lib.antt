-- Laws of the summary.
pub mod Counting
pub mod Told
pub mod Settled
