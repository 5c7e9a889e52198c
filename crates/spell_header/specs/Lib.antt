pub mod Wide
pub mod Codes
