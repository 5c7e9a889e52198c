-- `value::number` meets its contract. The invariant: with what is left the number is the whole. Assumes nothing.
use Prim.Native.Nat.{◌+◌, ◌*◌, ◌^◌, ◌≤◌}
use mathlib.Core.Path.{◌≡◌}
use lib.ListN.{drop}
use Rattle.field.specs.Field.{value_of}
use Rattle.value.proofs.number.Given as goal

abbrev pub invariant-loop-b : goal.invariant-loop-b
invariant-loop-b l = (value_of l.v (drop l.b-index l.s) ≡ value_of 0 l.s) × (l.v + 23 ≤ 23 * 10 ^ l.b-index)
