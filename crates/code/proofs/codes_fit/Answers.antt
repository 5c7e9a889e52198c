-- `code::codes_fit` meets its contract. The invariant: the codes that are left are fit if all are. Assumes nothing.
use Prim.Native.Nat.{◌-◌}
use mathlib.Core.Path.{◌≡◌, sym, ◌∙◌}
use native.Mathlib.Omega.{arith}
use Rattle.code.proofs.Packed.{fit_no_blank, fit_no_code, fit_more, fit_all}
use Rattle.code.proofs.codes_fit.Goals as goal

pub loop-i-init : goal.loop-i-init
loop-i-init c = let e : c.args.n - 0 ≡ c.args.n = omega arith in rw e

pub returns-then-column-ne32 : goal.returns-then-column-ne32
returns-then-column-ne32 c =
    let a = c.args in
    sym (fit_no_blank a.system a.n c.loop-i.i a.line.now c.loop-i-test.true (λ e. c.if-column-ne32.true (c.column.ensures ∙ e))) ∙ c.loop-i.invariant

pub returns-then-not-is_taken_by : goal.returns-then-not-is_taken_by
returns-then-not-is_taken_by c =
    let a = c.args in
    sym (fit_no_code a.system a.n c.loop-i.i a.line.now c.loop-i-test.true c.code_at.result c.code_at.ensures
    (sym c.is_taken_by.ensures ∙ c.if-not-is_taken_by.true))
    ∙ c.loop-i.invariant

pub loop-i-preserved : goal.loop-i-preserved
loop-i-preserved c =
    let a = c.args in
    sym (fit_more a.system a.n c.loop-i.i a.line.now c.loop-i-test.true c.code_at.result c.code_at.ensures
    (sym c.column.ensures ∙ c.if-column-ne32.false) (sym c.is_taken_by.ensures ∙ c.if-not-is_taken_by.false))
    ∙ c.loop-i.invariant

pub returns : goal.returns
returns c =
    let a = c.args in
    c.blank_columns.ensures ∙ (sym (fit_all a.system a.n c.loop-i.i a.line.now c.loop-i-test.false (omega arith)) ∙ c.loop-i.invariant)
