-- `write_header::code_lists::put_lists` meets its contract: what is put, with the lists that are ahead, ends alike. Assumes nothing.
use mathlib.Core.Path.{◌≡◌}
use mathlib.Core.Bool.{true}
use lib.ListN.{length, drop}
use Rattle.rinex.specs.Fit.{lists_fit}
use Rattle.write_header.proofs.Ahead.{Ahead}
use Rattle.write_header.proofs.CodeLines.{lists_from}
use Rattle.write_header.proofs.code_lists.put_lists.Given as goal

abbrev pub invariant-loop-s : goal.invariant-loop-s
invariant-loop-s l = (lists_fit l.letter l.codes l.s (drop l.s l.fn.lengths) ≡ true) × (length l.out ≡ length l.initial.out) × Ahead l.out l.to (lists_from l.s l.fn.lengths l.codes) l.initial.out l.at (lists_from 0 l.fn.lengths l.codes)
