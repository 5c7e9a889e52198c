-- `slots::all::fill` meets its contract. The invariant: what is stored, with the answers that are left, ends alike. Assumes nothing.
use Prim.Native.Nat.{◌-◌}
use mathlib.Core.Path.{◌≡◌}
use mathlib.Core.List.{map}
use lib.ListN.{length}
use lib.Seq.{sets}
use Rattle.rinex.specs.Answers.{kind, float}
use Rattle.slots.specs.InTables.{slots_before, column_from}
use Rattle.slots.proofs.all.fill.Given as goal

abbrev pub invariant-loop-j : goal.invariant-loop-j
invariant-loop-j l = ((length l.kinds ≡ length l.initial.kinds) × (length l.floats ≡ length l.initial.floats))
    × ((slots_before l.lengths l.rows.satellites.now (l.count - l.j) l.j l.at ≡ slots_before l.lengths l.rows.satellites.now l.count 0 0)
    × ((sets l.kinds l.j (map kind (column_from l.lengths l.rows.satellites.now l.rows.slots.numbers.now l.rows.slots.states.now l.system l.place l.code (l.count - l.j) l.j l.at)) ≡ sets l.initial.kinds 0 (map kind (column_from l.lengths l.rows.satellites.now l.rows.slots.numbers.now l.rows.slots.states.now l.system l.place l.code l.count 0 0)))
    × (sets l.floats l.j (map float (column_from l.lengths l.rows.satellites.now l.rows.slots.numbers.now l.rows.slots.states.now l.system l.place l.code (l.count - l.j) l.j l.at)) ≡ sets l.initial.floats 0 (map float (column_from l.lengths l.rows.satellites.now l.rows.slots.numbers.now l.rows.slots.states.now l.system l.place l.code l.count 0 0)))))
