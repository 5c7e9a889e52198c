-- `slots::places::slots_before` meets its contract. The invariant: the rows that are left end where all end. Assumes nothing.
use Prim.Native.Nat.{◌-◌}
use mathlib.Core.Path.{◌≡◌}
use Rattle.slots.specs.InTables.{slots_before}
use Rattle.slots.proofs.places.slots_before.Given as goal

abbrev pub invariant-loop-satellite : goal.invariant-loop-satellite
invariant-loop-satellite l = slots_before l.lengths l.satellites (l.fn.rows - l.satellite-index) l.satellite-index l.at ≡ slots_before l.lengths l.satellites l.fn.rows 0 0
