-- Finding serves the code and those who walk through a text; Settled: the promises.
pub mod Finding
pub mod Settled
