-- `find_line::all_plain` meets its contract. The invariant: what is known with the bytes that are left is known of all. Assumes nothing.
use mathlib.Core.Path.{◌≡◌}
use mathlib.Core.Bool.{not, ◌&&◌}
use lib.ListN.{drop}
use Rattle.line.specs.Text.{are_plain}
use Rattle.find_line.proofs.all_plain.Given as goal

abbrev pub invariant-loop-b : goal.invariant-loop-b
invariant-loop-b l = (not l.others && are_plain (drop l.b-index l.block)) ≡ are_plain l.block
