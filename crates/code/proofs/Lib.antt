-- Laws of codes as numbers. Halving: the table of codes that are known, and a place in it. Taken: what stands there says whether a code is taken.
-- Packed: the codes of a line and those of a table, one after the other.
mod Halving
mod Taken
pub mod Packed
