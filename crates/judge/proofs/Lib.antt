-- Laws of the first pass, with nothing assumed. Stages: what a data line keeps. Raws: the faults of a raw line. Opening and Judging: the loops
-- over the header's lines and the data's. Verdicts: what they answer of a whole text.
pub mod Stages
pub mod Raws
mod Judging
pub mod Opening
pub mod Verdicts
