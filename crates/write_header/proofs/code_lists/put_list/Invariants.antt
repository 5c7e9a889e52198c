-- `write_header::code_lists::put_list` meets its contract: what is put, with the lines that are ahead, ends alike. Assumes nothing.
use Prim.Native.Nat.{◌+◌, ◌-◌, ◌*◌, ◌≤◌}
use mathlib.Core.Path.{◌≡◌}
use lib.ListN.{length}
use Rattle.rinex.specs.Normal.{next_lines_of}
use Rattle.write_header.proofs.Ahead.{Ahead}
use Rattle.write_header.proofs.CodeLines.{codes_of}
use Rattle.write_header.proofs.code_lists.put_list.Given as goal

abbrev pub invariant-loop-done : goal.invariant-loop-done
invariant-loop-done l = (l.done ≤ l.n) × (length l.line ≡ 80) × (length l.out ≡ length l.initial.out)
    × Ahead l.out l.to (next_lines_of l.n (codes_of l.codes (64 * l.s + l.done) (l.n - l.done))) l.initial.out l.initial.to (next_lines_of l.n (codes_of l.codes (64 * l.s + l.initial.done) (l.n - l.initial.done)))

abbrev pub decreases-loop-done : goal.decreases-loop-done
decreases-loop-done l = l.n - l.done
