-- `write_field::put_lead` meets its contract. The invariant: what is left to write gives the whole. Assumes nothing.
use mathlib.Core.Path.{◌≡◌}
use lib.ListN.{length}
use lib.Seq.{sets}
use Rattle.write_field.specs.Steps.{lead}
use Rattle.write_field.proofs.put_lead.Given as goal

abbrev pub invariant-loop-i : goal.invariant-loop-i
invariant-loop-i l = sets l.out 0 (lead l.due l.i l.rest) ≡ lead l.minus (length l.initial.out) l.q
