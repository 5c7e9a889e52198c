-- `put_line::put_past` meets its contract: what is stored, with the bytes that are left, ends alike. Assumes nothing.
use Prim.Native.Nat.{◌+◌}
use mathlib.Core.Path.{◌≡◌}
use mathlib.Core.List.{[], ◌∷◌, ◌++◌}
use lib.ListN.{drop}
use lib.Seq.{sets}
use Rattle.put_line.proofs.put_past.Given as goal

abbrev pub invariant-loop-i : goal.invariant-loop-i
invariant-loop-i l = sets l.out (l.at + l.i) (drop l.i l.line ++ (10 ∷ [])) ≡ sets l.initial.out l.at (l.line ++ (10 ∷ []))
