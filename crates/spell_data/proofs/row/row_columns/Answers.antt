-- `spell_data::row::row_columns` meets its contract. Assumes nothing.
use Prim.Native.Nat.{ℕ, ◌+◌, ◌%◌}
use mathlib.Core.Path.{sym, ap, ◌∙◌}
use mathlib.Core.List.{List, ◌∷◌, ◌++◌}
use Rattle.write_field.specs.Normal.{fixed}
use Rattle.lent.specs.Parts.{slots_in}
use Rattle.spell_data.specs.Slots.{slots_text}
use Rattle.spell_data.proofs.Spelled.{row_put_lem, slots_long}
use Rattle.spell_data.proofs.row.row_columns.Goals as goal

pub returns : goal.returns
returns c =
    let a = c.args in
    let b = slots_in a.slots.now in
    let t : List ℕ = slots_text a.n a.from b in
    row_put_lem a.out.now c.put_byte.new.out c.put_fixed.new.out _ t _ (a.satellite % 100)
    c.put_byte.ensures c.put_fixed.ensures c.put_slots.ensures
    (c.requires.0 ∙ ap (λ (k : ℕ). 3 + k) (sym (slots_long b a.n a.from c.requires.1.fit)))
    ∙ ap (λ (k : ℕ). k ∷ (fixed 2 (a.satellite % 100) ++ t)) c.letter_of.ensures
