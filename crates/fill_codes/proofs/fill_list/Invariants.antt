-- `fill_codes::fill_list` meets its contract: what is stored, with the codes that are left, ends alike. Assumes nothing.
use Prim.Native.Nat.{◌+◌, ◌-◌}
use mathlib.Core.Path.{◌≡◌}
use lib.ListN.{take, drop}
use lib.Seq.{sets}
use Rattle.fill_codes.proofs.fill_list.Given as goal

abbrev pub invariant-loop-i : goal.invariant-loop-i
invariant-loop-i l = sets l.codes l.i (take (l.p + l.n - l.i) (drop l.i l.table)) ≡ sets l.initial.codes l.p (take l.n (drop l.p l.table))
