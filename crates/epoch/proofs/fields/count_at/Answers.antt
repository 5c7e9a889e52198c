-- `epoch::fields::count_at` meets its contract: what is read in columns 33 to 35 is what `whole_of` finds there. Assumes nothing.
use mathlib.Core.Path.{◌≡◌, sym, ap}
use native.Mathlib.Omega.{arith}
use lib.ListN.{length}
use Rattle.std.specs.Prelude.{None, Some}
use Rattle.lists.specs.Maybe.{given}
use Rattle.field.specs.Found.{whole_of}
use Rattle.field.proofs.Digits.{power}
use Rattle.field.proofs.Found.{whole_found}
use Rattle.field.proofs.Short.{whole_below}
use Rattle.line.specs.Text.{cols}
use Rattle.line.proofs.Columns.{length_cols}
use Rattle.rinex.specs.Tests.{count_at}
use Rattle.epoch.proofs.fields.count_at.Goals as goal

pub returns-in_default : goal.returns-in_default
unfolding count_at
returns-in_default c =
    let none : None ≡ whole_of (cols 33 35 c.args.line.now) = c.in_default.ensures in
    (ap (given 0) none, omega arith)

pub returns : goal.returns
unfolding count_at
returns c =
    let s = cols 33 35 c.args.line.now in
    let n = c.in-Some.n in
    let some : Some n ≡ whole_of s = c.in-Some.ensures in
    (ap (given 0) some, omega (arith, whole_below s n (whole_found s n (sym some)), power (length s) 3 (omega (arith, length_cols 33 35 c.args.line.now))))
