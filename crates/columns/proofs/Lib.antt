-- Laws of columns as they are put.
mod Put
pub mod States
pub mod Dates
