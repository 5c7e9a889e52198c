-- `put_line::copy_line` meets its contract: what is stored, with the bytes that are left, ends alike. Assumes nothing.
use mathlib.Core.Path.{◌≡◌}
use mathlib.Core.List.{[], ◌∷◌, ◌++◌}
use lib.ListN.{length, drop}
use lib.Seq.{sets}
use Rattle.put_line.proofs.copy_line.Given as goal

abbrev pub invariant-loop-i : goal.invariant-loop-i
invariant-loop-i l = (length l.out ≡ length l.initial.out) × (sets l.out l.i (drop l.i l.line ++ (10 ∷ [])) ≡ sets l.initial.out 0 (l.line ++ (10 ∷ [])))
