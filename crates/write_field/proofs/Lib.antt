-- Laws of fields as they are written. Written: what is written is spelled, and which numbers a field holds; Counting: how many digits; Lead: what stands before
-- the digits; Stored, Writes: digits put one by one, and a field as it is left; Turned: numbers below zero, turned round. Again: they read back. Edges: the paper's cases.
pub mod Written
mod Turned
mod Lead
pub mod Counting
mod Stored
mod Writes
pub mod Again
pub mod Edges
