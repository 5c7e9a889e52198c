-- `fits_rows::lines::next_line` meets its contract. Assumes nothing.
use mathlib.Core.Path.{subst}
use mathlib.Core.Logic.{inl, inr}
use Rattle.find_line.specs.Promises.{Finds}
use Rattle.fits_rows.proofs.Running.{no_line, faulty_line, long_line}
use Rattle.fits_rows.proofs.lines.next_line.Goals as goal

pub returns-in-Over : goal.returns-in-Over
returns-in-Over c =
    let e = c.args.event in
    let t = c.args.text.now in
    let i = c.args.at in
    elim c.in-Over.is [
      | inl over ↦ no_line e t i (subst (Finds t i) over c.find.ensures)
      | inr (inl faulty) ↦ faulty_line e t i (subst (Finds t i) faulty c.find.ensures)
      | inr (inr long) ↦ let f = subst (Finds t i) long.1 c.find.ensures in long_line e t i long.0 f.0 f.2
    ]
