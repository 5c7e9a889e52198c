-- `fill_codes::fill_codes` meets its contract: what is stored, with the lists that are left, ends alike. Assumes nothing.
use Prim.Native.Nat.{◌*◌}
use mathlib.Core.Path.{◌≡◌}
use lib.ListN.{drop}
use Rattle.fill_codes.specs.Codes.{codes_from}
use Rattle.fill_codes.proofs.fill_codes.Given as goal

abbrev pub invariant-loop-y : goal.invariant-loop-y
invariant-loop-y l = codes_from (64 * l.y) (drop l.y l.lengths) l.table l.codes ≡ codes_from 0 l.lengths l.table l.initial.codes
