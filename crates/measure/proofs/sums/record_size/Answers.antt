-- `measure::sums::record_size` meets its contract. Assumes nothing.
use native.Mathlib.Omega.{arith}
use borrow.Author.Tests.{ne_eqb, eq-eqb}
use Rattle.measure.proofs.sums.record_size.Goals as goal

pub returns-then-clock_state-eq0 : goal.returns-then-clock_state-eq0
returns-then-clock_state-eq0 c = (rw (eq-eqb _ _ c.if-clock_state-eq0.true), omega arith)

pub returns-else-clock_state-eq0 : goal.returns-else-clock_state-eq0
returns-else-clock_state-eq0 c = (rw (ne_eqb _ _ c.if-clock_state-eq0.false), omega arith)
