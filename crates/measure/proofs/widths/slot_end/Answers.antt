-- `measure::widths::slot_end` meets its contract. Assumes nothing.
use borrow.Author.Tests.{ne_eqb, eq-eqb}
use Rattle.measure.proofs.widths.slot_end.Goals as goal

pub returns-then-strength-ne255 : goal.returns-then-strength-ne255
returns-then-strength-ne255 c = rw (ne_eqb _ _ c.if-strength-ne255.true)

pub returns-then-loss-ne255 : goal.returns-then-loss-ne255
returns-then-loss-ne255 c = rw (eq-eqb _ _ c.if-strength-ne255.false, ne_eqb _ _ c.if-loss-ne255.true)

pub returns-then-state-eq0 : goal.returns-then-state-eq0
returns-then-state-eq0 c = rw (eq-eqb _ _ c.if-strength-ne255.false, eq-eqb _ _ c.if-loss-ne255.false, eq-eqb _ _ c.if-state-eq0.true)

pub returns-else-state-eq0 : goal.returns-else-state-eq0
returns-else-state-eq0 c = rw (eq-eqb _ _ c.if-strength-ne255.false, eq-eqb _ _ c.if-loss-ne255.false, ne_eqb _ _ c.if-state-eq0.false)
