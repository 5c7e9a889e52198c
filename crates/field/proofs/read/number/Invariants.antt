-- `field::read::number` meets its contract. The invariant: with what is left the number is the whole. Assumes nothing.
use Prim.Native.Nat.{◌<◌}
use mathlib.Core.Path.{◌≡◌}
use lib.ListN.{drop}
use Rattle.field.specs.Reading.{most}
use Rattle.field.specs.Steps.{number_in}
use Rattle.field.proofs.read.number.Given as goal

abbrev pub invariant-loop-b : goal.invariant-loop-b
invariant-loop-b l = (l.v < most) × (number_in l.v (drop l.b-index l.s) ≡ number_in l.m l.s)
