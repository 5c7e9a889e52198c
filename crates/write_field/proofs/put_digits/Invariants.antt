-- `write_field::put_digits` meets its contract. The invariant: what is left to write gives the whole. Assumes nothing.
use Prim.Native.Nat.{◌/◌, ◌^◌}
use mathlib.Core.Path.{◌≡◌}
use lib.ListN.{length}
use lib.Seq.{sets}
use Rattle.write_field.specs.Normal.{fixed}
use Rattle.write_field.proofs.put_digits.Given as goal

abbrev pub invariant-loop-i : goal.invariant-loop-i
invariant-loop-i l = (sets l.out 0 (fixed l.i l.rest) ≡ fixed (length l.initial.out) l.n) × (l.rest / 10 ^ l.i ≡ l.n / 10 ^ length l.initial.out)
