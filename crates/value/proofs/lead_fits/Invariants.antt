-- `value::lead_fits` meets its contract. The invariant: what is left decides as all of it does. Assumes nothing.
use Prim.Native.Nat.{◌-◌}
use mathlib.Core.Path.{◌≡◌}
use mathlib.Core.Bool.{◌&&◌}
use lib.ListN.{get_or, drop}
use Rattle.value.specs.Steps.{follow}
use Rattle.value.proofs.lead_fits.Given as goal

abbrev pub invariant-loop-i : goal.invariant-loop-i
invariant-loop-i l = (l.fit && follow (get_or l.s (l.i - 1) 0) (drop l.i l.s)) ≡ follow 32 l.s
