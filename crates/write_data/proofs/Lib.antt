-- Laws of putting epochs. EpochSteps: what a fit epoch has, what its text is made of, and what it leaves. HeldAlone: which buffers
-- an epoch sees. EpochTurns: one epoch more. Followed: a line, and a text behind it. HeldLines: fit lines are held.
pub mod EpochSteps
pub mod HeldAlone
pub mod HeldLines
mod EpochTurns
mod Followed
