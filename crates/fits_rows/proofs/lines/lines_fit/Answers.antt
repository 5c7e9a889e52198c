-- `fits_rows::lines::lines_fit` meets its contract. Assumes nothing.
use Prim.Native.Nat.{◌-◌}
use mathlib.Core.Path.{sym, ◌∙◌}
use native.Mathlib.Omega.{arith}
use lib.ListN.{drop}
use Rattle.line.specs.Text.{split}
use Rattle.fits_rows.specs.Carried.{Ran}
use Rattle.fits_rows.proofs.Running.{stops, more_fit, more_rest, more_marker, all_ran}
use Rattle.fits_rows.proofs.lines.lines_fit.Goals as goal

pub returns-in_err-next : goal.returns-in_err-next
returns-in_err-next c =
    let a = c.args in
    let l = c.loop in
    rw c.from_residual.ensures (sym l.invariant.0 ∙ stops a.event a.text.now l.counter a.n c.loop-test.true (split (drop l.run.to a.text.now)) c.in_err-next.ensures)

pub loop-preserved : goal.loop-preserved
loop-preserved c =
    let a = c.args in
    let l = c.loop in
    let next = c.in_ok-next.next in
    let ws = split (drop l.run.to a.text.now) in
    let ran : Ran a.event a.text.now 1 ws next.to next.marker = c.in_ok-next.ensures in (
      sym (more_fit a.event a.text.now l.counter a.n c.loop-test.true next.to next.marker ws ran) ∙ l.invariant.0,
      sym (more_rest a.event a.text.now l.counter a.n c.loop-test.true next.to next.marker ws ran) ∙ l.invariant.1,
      sym (more_marker a.event a.text.now l.counter a.n c.loop-test.true next.to next.marker ws ran l.run.marker) ∙ l.invariant.2,
    )

pub returns : goal.returns
returns c =
    let a = c.args in
    let l = c.loop in
    all_ran a.event a.text.now a.n (split (drop a.at a.text.now)) (a.n - l.counter) l.run.to l.run.marker (omega (arith, c.loop-test.false)) l.invariant.0 l.invariant.1 l.invariant.2
