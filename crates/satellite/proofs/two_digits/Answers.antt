-- `satellite::two_digits` meets its contract. Assumes nothing.
use mathlib.Core.Path.{sym, ap, ◌∙◌}
use native.Mathlib.Omega.{arith}
use Rattle.field.specs.Field.{is_digit}
use Rattle.satellite.proofs.Pairs.{first_not, second_not, digits_are}
use Rattle.satellite.proofs.two_digits.Goals as goal
use Rattle.satellite.proofs.two_digits.Goals.{then-not-is_ascii_digit-via-then-not-is_ascii_digit, then-not-is_ascii_digit-via-else-not-is_ascii_digit+then-not-is_ascii_digit-2}

pub returns-then-not-is_ascii_digit : goal.returns-then-not-is_ascii_digit
returns-then-not-is_ascii_digit c =
    let e = ap is_digit c.column-t.ensures in
    let f = ap is_digit c.column-u.ensures in
    elim c.then-not-is_ascii_digit.branch [
      | then-not-is_ascii_digit-via-then-not-is_ascii_digit w ↦ (first_not c.args.line.now (sym e ∙ (sym c.is_ascii_digit.ensures.value ∙ w.if-not-is_ascii_digit.true)), omega arith)
      | then-not-is_ascii_digit-via-else-not-is_ascii_digit+then-not-is_ascii_digit-2 w ↦
          (second_not c.args.line.now (sym f ∙ (sym w.is_ascii_digit-else-not-is_ascii_digit.ensures.value ∙ w.if-not-is_ascii_digit-2.true)), omega arith)
    ]

pub returns : goal.returns
returns c =
    let t = c.if-not-is_ascii_digit.ensures in
    let u = c.if-not-is_ascii_digit-2.ensures in
    let p = sym (ap is_digit c.column-t.ensures) ∙ sym t.value in
    let q = sym (ap is_digit c.column-u.ensures) ∙ sym u.value in
    let n = digits_are c.args.line.now p q in
    (omega (arith, n, c.from.ensures, c.from-2.ensures, c.column-t.ensures, c.column-u.ensures), omega (arith, c.from.ensures, c.from-2.ensures, t.cases.1, u.cases.1))
