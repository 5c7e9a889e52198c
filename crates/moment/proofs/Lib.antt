-- Laws of dates and moments.
pub mod Days
mod Unique
pub mod DateAt
pub mod Settled
pub mod Dates
pub mod Times
pub mod Edges
