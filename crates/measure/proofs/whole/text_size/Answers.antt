-- `measure::whole::text_size` meets its contract. Assumes nothing.
use native.Mathlib.Omega.{arith}
use Rattle.measure.proofs.whole.text_size.Goals as goal

pub rows_size-requires : goal.rows_size-requires
rows_size-requires c = (c.requires.0, (c.requires.1.0, (c.requires.1.1, omega (arith, c.requires.1.1, c.if-limit-second.false))))
