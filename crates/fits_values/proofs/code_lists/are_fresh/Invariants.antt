-- `fits_values::code_lists::are_fresh` meets its contract. The invariant: those that are left are fresh behind those before if all are. Assumes nothing.
use mathlib.Core.Path.{◌≡◌}
use mathlib.Core.List.{[]}
use lib.Dec.{eqb}
use lib.ListN.{take, drop}
use Rattle.lists.specs.Lists.{fresh}
use Rattle.fits_values.proofs.code_lists.are_fresh.Given as goal

abbrev pub invariant-loop-i : goal.invariant-loop-i
invariant-loop-i l = fresh eqb (take l.i l.codes) (drop l.i l.codes) ≡ fresh eqb [] l.codes
