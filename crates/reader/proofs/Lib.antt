-- Laws of reading, with nothing assumed. Replied: the two replies keep the promise. Settled: no other reply does. MoreRoom: of two replies, the second with more room.
mod Replied
pub mod Settled
pub mod MoreRoom
