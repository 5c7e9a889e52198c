-- `code::codes_fit` meets its contract. The invariant: the codes that are left are fit if all are. Assumes nothing.
use Prim.Native.Nat.{◌+◌, ◌-◌, ◌*◌}
use mathlib.Core.Path.{◌≡◌}
use Rattle.rinex.specs.Tests.{codes_fit}
use Rattle.code.proofs.codes_fit.Given as goal

abbrev pub invariant-loop-i : goal.invariant-loop-i
invariant-loop-i l = codes_fit l.system (l.n - l.i) (7 + 4 * l.i) l.line ≡ codes_fit l.system l.n 7 l.line
