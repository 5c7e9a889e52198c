-- Laws of how long the normal text is, with nothing assumed. Cuts: columns once their trailing blanks are cut. RowSizes
-- and LineSizes: rows and other lines. Steps: turns of the loops. TextSize the whole text, LoneSize one epoch.
mod Cuts
mod RowSizes
mod LineSizes
pub mod TextSize
pub mod Steps
pub mod LoneSize
