-- `systems::system_at` meets its contract. Assumes nothing.
use mathlib.Core.Path.{◌≡◌, sym, ◌∙◌}
use native.Mathlib.Omega.{arith}
use borrow.Author.Tests.{ne_eqb}
use Rattle.line.specs.Text.{col}
use Rattle.rinex.specs.Tests.{system_at}
use Rattle.rinex.proofs.Rows.{letter_back}
use Rattle.systems.proofs.system_at.Goals as goal

pub returns-in-71 : goal.returns-in-71
returns-in-71 c = (sym (letter_back c.args.line.now 0 (omega arith) (sym c.column-letter.ensures ∙ c.in-71.is)), omega arith)

pub returns-in-82 : goal.returns-in-82
returns-in-82 c = (sym (letter_back c.args.line.now 1 (omega arith) (sym c.column-letter.ensures ∙ c.in-82.is)), omega arith)

pub returns-in-69 : goal.returns-in-69
returns-in-69 c = (sym (letter_back c.args.line.now 2 (omega arith) (sym c.column-letter.ensures ∙ c.in-69.is)), omega arith)

pub returns-in-74 : goal.returns-in-74
returns-in-74 c = (sym (letter_back c.args.line.now 3 (omega arith) (sym c.column-letter.ensures ∙ c.in-74.is)), omega arith)

pub returns-in-67 : goal.returns-in-67
returns-in-67 c = (sym (letter_back c.args.line.now 4 (omega arith) (sym c.column-letter.ensures ∙ c.in-67.is)), omega arith)

pub returns-in-73 : goal.returns-in-73
returns-in-73 c = (sym (letter_back c.args.line.now 5 (omega arith) (sym c.column-letter.ensures ∙ c.in-73.is)), omega arith)

pub returns-in-83 : goal.returns-in-83
returns-in-83 c = (sym (letter_back c.args.line.now 6 (omega arith) (sym c.column-letter.ensures ∙ c.in-83.is)), omega arith)

pub returns-in_default : goal.returns-in_default
unfolding system_at
returns-in_default c =
    let x = col 1 c.args.line.now in
    let e : x ≡ c.column-letter.result = sym c.column-letter.ensures in (
      rw (
        ne_eqb x 71 (λ h. omega (arith, e)),
        ne_eqb x 82 (λ h. omega (arith, e)),
        ne_eqb x 69 (λ h. omega (arith, e)),
        ne_eqb x 74 (λ h. omega (arith, e)),
        ne_eqb x 67 (λ h. omega (arith, e)),
        ne_eqb x 73 (λ h. omega (arith, e)),
        ne_eqb x 83 (λ h. omega (arith, e)),
      ),
      omega arith,
    )
