-- `write_field::fixed` meets its contract: as many digits as are counted fit. Assumes nothing.
use mathlib.Core.Path.{refl, ◌∙◌}
use borrow.Author.Tests.{le-leb, lt-leb}
use Rattle.write_field.proofs.Counting.{count_fits_lem}
use Rattle.write_field.proofs.Writes.{refused, written}
use Rattle.write_field.proofs.fixed.Goals as goal

pub returns-then-out-count : goal.returns-then-out-count
returns-then-out-count c = refused _ _ _ _ (count_fits_lem _ _ _ c.count.ensures ∙ lt-leb _ _ c.if-out-count.true) refl

pub returns : goal.returns
returns c = written _ _ _ _ (count_fits_lem _ _ _ c.count.ensures ∙ le-leb _ _ c.if-out-count.false) c.put_digits.ensures.1
