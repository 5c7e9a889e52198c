-- `row::slot_fits` meets its contract: the part, the blanks past the end or the copy are the slot's columns. Assumes nothing.
use Prim.Native.Nat.{◌+◌}
use mathlib.Core.Path.{sym, ap, ◌∙◌}
use native.Mathlib.Omega.{arith}
use Rattle.row.specs.Steps.{slot_fits}
use Rattle.row.proofs.Places.{slot_part, past_fits}
use Rattle.row.proofs.slot_fits.Goals as goal

pub returns-then-to-line : goal.returns-then-to-line
returns-then-to-line c =
    let a = c.args in
    c.columns_fit.ensures ∙ ap slot_fits (slot_part a.a a.line.now (omega arith) (omega arith))

pub returns-then-line-from : goal.returns-then-line-from
returns-then-line-from c =
    let a = c.args in
    sym (past_fits a.a a.line.now (omega arith) (omega arith))

pub returns : goal.returns
returns c =
    let a = c.args in
    c.columns_fit-2.ensures ∙ ap slot_fits (c.columns.ensures (a.a + 15) (omega arith))
