-- `judge::reached::reach` meets its contract, by what is found. Assumes nothing.
use Rattle.std.proofs.Common.{inl, inr}
use mathlib.Core.Path.{subst}
use Rattle.find_line.specs.Promises.{Finds}
use Rattle.judge.proofs.Raws.{reaches_end, reaches_long, reaches_faulty, reaches_over}
use Rattle.judge.proofs.reached.reach.Goals as goal

pub returns-in-Ends : goal.returns-in-Ends
returns-in-Ends c =
    let a = c.args in
    reaches_end a.text.now a.at _ (subst (Finds a.text.now a.at) c.in-Ends.is c.find.ensures)

pub returns-in-Long : goal.returns-in-Long
returns-in-Long c =
    let a = c.args in
    reaches_long a.text.now a.at _ (subst (Finds a.text.now a.at) c.in-Long.is c.find.ensures)

pub returns-in-Faulty : goal.returns-in-Faulty
returns-in-Faulty c =
    let a = c.args in
    elim c.in-Faulty.is [
      | inl e ↦ reaches_faulty a.text.now a.at (subst (Finds a.text.now a.at) e c.find.ensures)
      | inr e ↦ reaches_over a.text.now a.at (subst (Finds a.text.now a.at) e c.find.ensures)
    ]
