-- Laws of lines and columns: Columns and Texts for those who build on them; Turns for loops over a line.
pub mod Columns
pub mod Texts
pub mod Turns
