-- Laws of writing. FitParts: what fit tables give to those that put them. Replied: each reply keeps its promise, whatever is written; FileReplies
-- those of a file, EpochReplies those of one epoch. LineBytes: how many bytes held lines have.
-- Settled: one reply, and one buffer.
mod FitParts
mod Replied
mod FileReplies
mod LineBytes
mod EpochReplies
pub mod Settled
