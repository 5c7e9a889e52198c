-- `row::slots_fit` meets its contract. The invariant: what is left from slot i on decides as the whole row does. Assumes nothing.
use Prim.Native.Nat.{◌+◌, ◌-◌, ◌*◌}
use mathlib.Core.Path.{◌≡◌}
use Rattle.rinex.specs.Tests.{slots_fit}
use Rattle.row.proofs.slots_fit.Given as goal

abbrev pub invariant-loop-i : goal.invariant-loop-i
invariant-loop-i l = slots_fit (l.n - l.i) (4 + 16 * l.i) l.line ≡ slots_fit l.n 4 l.line
