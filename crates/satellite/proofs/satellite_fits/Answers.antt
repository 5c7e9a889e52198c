-- `satellite::satellite_fits` meets its contract. Assumes nothing.
use mathlib.Core.Path.{ap, ◌∙◌}
use native.Mathlib.Omega.{arith}
use lib.Dec.{leb}
use borrow.Author.Tests.{le-ltb}
use Rattle.satellite.proofs.Pairs.{none_there, some_there}
use Rattle.satellite.proofs.satellite_fits.Goals as goal

pub returns-then-system_at-lt7 : goal.returns-then-system_at-lt7
returns-then-system_at-lt7 c = ap (leb 1) c.two_digits.ensures.0 ∙ some_there c.args.line.now (omega (arith, c.system_at.ensures.0))

pub returns-else-system_at-lt7 : goal.returns-else-system_at-lt7
returns-else-system_at-lt7 c = le-ltb c.system_at.result 7 (omega arith) ∙ none_there c.args.line.now (omega (arith, c.system_at.ensures.0))
