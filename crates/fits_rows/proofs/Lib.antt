-- Laws of the test on rows and on carried lines.
pub mod Slotted
pub mod Running
