-- `satellite::number_at` meets its contract. Assumes nothing.
use mathlib.Core.Path.{◌∙◌}
use Rattle.satellite.proofs.Pairs.{number_there}
use Rattle.satellite.proofs.number_at.Goals as goal

pub returns : goal.returns
returns c = ((λ h. c.two_digits.ensures.0 ∙ number_there c.args.line.now h), c.two_digits.ensures.1)
