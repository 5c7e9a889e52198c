-- `spell_data::row::put_slots` meets its contract. Assumes nothing.
use Prim.Native.Nat.{◌+◌, ◌-◌, ◌*◌}
use mathlib.Core.Path.{◌≡◌}
use lib.ListN.{length}
use lib.Seq.{sets}
use Rattle.lent.specs.Parts.{slots_in}
use Rattle.spell_data.specs.Slots.{slots_text}
use Rattle.spell_data.proofs.row.put_slots.Given as goal

abbrev pub invariant-loop-i : goal.invariant-loop-i
invariant-loop-i l =
    let b = slots_in l.slots in
    (length l.out ≡ length l.initial.out) × (sets l.out (3 + 16 * l.i) (slots_text (l.n - l.i) (l.from + l.i) b) ≡ sets l.initial.out 3 (slots_text l.n l.from b))
