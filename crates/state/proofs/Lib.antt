-- Laws of the state and of a line's fault under it, with nothing assumed.
--
-- The way to `Simulated.simulated` and `judged_verdict`, that the judge as the code keeps it (`specs/Judge`) gives the verdict of the rule.
-- Packed: codes that are stored packed in a table are read back. Kept says what the code's state, its table of codes and its stamps keep of
-- a state of the rule, and which state that is (`rule_of`). SameFaults: a line has the same fault under both.
-- ListSteps, HeaderSteps and DataSteps: after a line without a fault the rule's state is again what is kept. Simulated puts them together.
--
-- For the code's loop: `Kept.kept_begin`, `Simulated.kept_next`, and what follows from `Kept` (`Sane.kept_sane`).
--
-- Numbers: no fault has the number 0.
mod Packed
pub mod Kept
pub mod SameFaults
mod ListSteps
mod HeaderSteps
mod DataSteps
pub mod Simulated
pub mod Sane
pub mod Numbers
