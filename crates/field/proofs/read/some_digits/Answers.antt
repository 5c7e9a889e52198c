-- `field::read::some_digits` meets its contract. Assumes nothing.
use mathlib.Core.Path.{sym, ◌∙◌}
use native.Mathlib.Omega.{arith}
use Rattle.std.proofs.lemmas.Result.{err_from_is_err_and}
use Rattle.std.proofs.lemmas.Bool.Decides.{nat_tests}
use Rattle.field.proofs.Digits.{number_held, number_is}
use Rattle.field.proofs.read.some_digits.Goals as goal

pub returns-in_err-ok_or : goal.returns-in_err-ok_or
returns-in_err-ok_or c =
    let p = err_from_is_err_and c.from_residual.result c.from_residual.ensures.1 in
    rw p.1 (grind (arith, nat_tests), λ e k. grind (arith, number_is 0 c.args.s.now e k, c.number.ensures, c.in_err-ok_or.ensures.ok_part))

pub returns : goal.returns
returns c =
    let h = number_held 0 c.args.s.now c.in_ok-ok_or.field-0 (sym c.number.ensures ∙ c.in_ok-ok_or.ensures.ok_part) in
    (grind (arith, nat_tests), h.0, h.1, h.2)
