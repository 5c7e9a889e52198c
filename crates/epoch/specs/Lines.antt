-- What the functions on an epoch record answer, beside the tests of the rule.
use Rattle.std.specs.Prelude.{ℕ, List, ℤ}
use Rattle.std.specs.Prelude.{Option}
use Rattle.field.specs.Found.{decimal_of}
use Rattle.line.specs.Text.{cols}

-- the clock of an epoch record, where it is given
unfoldable pub clock_held : List ℕ → Option ℤ
clock_held l = decimal_of 12 (cols 42 56 l)
