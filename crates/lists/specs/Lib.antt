pub mod Lists
pub mod Blank
pub mod Maybe
