-- RoundTrip: what is written and read again, over the promises of the two calls. Settled: one answer for a slot.
-- MoreRoom: what is accepted is accepted with more room; what is written whole and handed on of a text that was read into any two sets of buffers.
pub mod RoundTrip
pub mod Settled
pub mod MoreRoom
