-- `value::has_minus` meets its contract. The invariant: what is left decides as all of it does. Assumes nothing.
use mathlib.Core.Path.{◌≡◌}
use mathlib.Core.Bool.{◌||◌}
use lib.Dec.{eqb}
use lib.ListN.{drop}
use Rattle.lists.specs.Lists.{is_in}
use Rattle.value.proofs.has_minus.Given as goal

abbrev pub invariant-loop-b : goal.invariant-loop-b
invariant-loop-b l = (l.found || is_in eqb 45 (drop l.b-index l.s)) ≡ is_in eqb 45 l.s
