-- `field::read::decimal` meets its contract: what stands behind the blanks and the sign decides. Assumes nothing.
use native.Mathlib.Omega.{arith}
use Rattle.field.proofs.Signed.{none_left, under_minus, with_no_sign}
use Rattle.field.proofs.read.decimal.Goals as goal

pub returns-in-empty : goal.returns-in-empty
returns-in-empty c = none_left _ _ c.blanks.ensures c.in-empty.len_below

pub returns-in-45 : goal.returns-in-45
returns-in-45 c =
    under_minus c.args.d c.args.s.now c.blanks.result c.blanks.ensures c.under_sign.result c.map.result c.map.ensures.cases
    (omega arith) (omega arith) c.under_sign.ensures

pub returns-in_default : goal.returns-in_default
returns-in_default c =
    with_no_sign c.args.d c.args.s.now c.blanks.result c.blanks.ensures c.under_sign-in_default.result c.map-in_default.result c.map-in_default.ensures.cases
    (omega arith) (λ e. omega arith) c.under_sign-in_default.ensures
