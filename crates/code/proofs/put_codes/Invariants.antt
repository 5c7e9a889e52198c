-- `code::put_codes` meets its contract. The invariant: the codes that are left, put into the table as it is, give what all give.
use Prim.Native.Nat.{◌+◌}
use mathlib.Core.Path.{◌≡◌}
use mathlib.Core.List.{map}
use lib.Dec.{eqb}
use lib.ListN.{length, take, drop}
use lib.Seq.{sets}
use Rattle.lists.specs.Lists.{fresh}
use Rattle.rinex.specs.Tables.{packed}
use Rattle.rinex.specs.Tests.{codes_at}
use Rattle.code.proofs.Packed.{left}
use Rattle.code.proofs.put_codes.Given as goal

abbrev pub invariant-loop-i : goal.invariant-loop-i
invariant-loop-i l = (length l.table ≡ length l.initial.table) × (fresh eqb (take (l.before + l.i) (drop l.from l.table)) (left l.n l.i l.line) ≡ fresh eqb (take l.before (drop l.from l.initial.table)) (map packed (codes_at l.n 7 l.line)))
    × (sets l.table (l.from + l.before + l.i) (left l.n l.i l.line) ≡ sets l.initial.table (l.from + l.before) (map packed (codes_at l.n 7 l.line)))
