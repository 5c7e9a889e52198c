-- `spell_header::put_codes` meets its contract. Assumes nothing.
use Prim.Native.Nat.{◌+◌, ◌*◌}
use mathlib.Core.Path.{◌≡◌}
use lib.ListN.{length, drop}
use lib.Seq.{sets}
use Rattle.spell_header.specs.Codes.{codes_text}
use Rattle.spell_header.proofs.put_codes.Given as goal

abbrev pub invariant-loop-i : goal.invariant-loop-i
invariant-loop-i l = (length l.out ≡ length l.initial.out) × (sets l.out (6 + 4 * l.i) (codes_text (drop l.i l.codes)) ≡ sets l.initial.out 6 (codes_text l.codes))
