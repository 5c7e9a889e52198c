pub mod Fill
pub mod Filling
