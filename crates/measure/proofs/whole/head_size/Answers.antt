-- `measure::whole::head_size` meets its contract. Assumes nothing.
use native.Mathlib.Omega.{arith}
use borrow.Author.Tests.{ne_eqb, eq-eqb}
use Rattle.measure.proofs.whole.head_size.Goals as goal

pub returns-then-interval_state-eq0 : goal.returns-then-interval_state-eq0
returns-then-interval_state-eq0 c = let l = c.list_lines.ensures in (rw (eq-eqb _ _ c.if-interval_state-eq0.true) (omega (arith, l.0)), omega (arith, l.1))

pub returns-else-interval_state-eq0 : goal.returns-else-interval_state-eq0
returns-else-interval_state-eq0 c = let l = c.list_lines.ensures in (rw (ne_eqb _ _ c.if-interval_state-eq0.false) (omega (arith, l.0)), omega (arith, l.1))
