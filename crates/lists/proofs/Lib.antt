-- Laws of the words in specs/, and of lists at large.
pub mod Bools
pub mod Maybe
pub mod Chain
pub mod Lists
pub mod Places
pub mod Bytes
pub mod Parts
pub mod Sums
pub mod Every
pub mod Stores
pub mod Apart
pub mod Ahead
