-- Laws of the test on numbers, lists of codes and satellites.
pub mod Ranges
pub mod Listed
pub mod Parted
