-- `row_store::put_slot` meets its contract: the part, the blanks past the end or the copy are the slot's columns. Assumes nothing.
use Prim.Native.Nat.{ℕ, ◌+◌, ◌-◌}
use mathlib.Core.Path.{◌≡◌, sym, ap, ◌∙◌}
use native.Mathlib.Omega.{arith}
use lib.ListN.{length}
use Rattle.line.proofs.Columns.{length_cols}
use Rattle.row_store.specs.Steps.{slot_in}
use Rattle.row.specs.Steps.{slot_fits}
use Rattle.row_store.proofs.Places.{slot_at, past_is}
use Rattle.row.proofs.Places.{slot_part}
use Rattle.row_store.proofs.Tables.{stored_slot}
use Rattle.row_store.proofs.put_slot.Goals as goal

last : (a : ℕ) → a + 15 + 1 ≡ a + 16
last a = omega arith

sixteen : (a : ℕ) → a + 15 + 1 - a ≡ 16
sixteen a = omega arith

pub put_columns-requires : goal.put_columns-requires
put_columns-requires c =
    let e = slot_part c.args.a c.args.line.now c.requires.0 c.if-to-line.true in
    (ap length e ∙ (length_cols c.args.a (c.args.a + 15) c.args.line.now ∙ sixteen c.args.a), ap slot_fits e ∙ c.requires.1.1)

pub returns-then-to-line : goal.returns-then-to-line
returns-then-to-line c =
    stored_slot c.args.at c.put_columns.ensures (ap slot_in (slot_part c.args.a c.args.line.now c.requires.0 c.if-to-line.true) ∙ slot_at c.args.a c.args.line.now c.requires.0)

pub returns-then-line-from : goal.returns-then-line-from
returns-then-line-from c = stored_slot c.args.at c.put_entry.ensures (sym (past_is c.args.a c.args.line.now c.requires.0 c.if-line-from.true))

pub returns : goal.returns
returns c =
    stored_slot c.args.at c.put_columns-2.ensures (ap slot_in (c.columns.ensures (c.args.a + 15) (last c.args.a)) ∙ slot_at c.args.a c.args.line.now c.requires.0)
