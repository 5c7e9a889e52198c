-- `spell_data::row::put_slots` meets its contract. Assumes nothing.
use lib.IntN.{pos}
use mir.Syntax.{w64}
use mir.ValLaws.{to_z-of_z}
use Prim.Native.Nat.{◌+◌, ◌*◌}
use mathlib.Core.Path.{◌≡◌, sym, ◌∙◌}
use native.Mathlib.Omega.{arith}
use lib.ListN.{length, get_or}
use Rattle.lent.specs.Parts.{slots_in}
use Rattle.spell_data.proofs.Spelled.{slots_more, slots_done}
use borrow.Author.Rules.{rules}
use Rattle.spell_data.proofs.row.put_slots.Goals as goal

pub returns : goal.returns
returns c = let a = c.args in let l = c.loop-i in sym (slots_done (slots_in a.slots.now) l.out (3 + 16 * l.i) a.n a.from l.i (omega arith)) ∙ l.invariant.1

pub loop-i-preserved : goal.loop-i-preserved
loop-i-preserved c =
    let a = c.args in let l = c.loop-i in
    let m : length l.out ≡ 3 + 16 * a.n = l.invariant.0 ∙ c.requires.0 in (
      search rules,
      slots_more (slots_in a.slots.now) l.out c.slot_columns.new.out a.n a.from l.i _ (to_z-of_z w64 (get_or a.slots.now.numbers.now (a.from + l.i) (pos 0)) (record { sfits = omega arith })) c.loop-i-test.true m c.requires.1.fit c.slot_columns.ensures ∙ l.invariant.1,
    )
