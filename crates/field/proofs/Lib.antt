-- Laws of fields as they are read.
pub mod Found
pub mod Digits
mod Places
mod Split
pub mod Signs
pub mod Settled
pub mod Edges
pub mod Short
pub mod Signed
