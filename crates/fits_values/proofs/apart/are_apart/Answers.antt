-- `fits_values::apart::are_apart` meets its contract. Assumes nothing.
use mathlib.Core.Path.{sym, ◌∙◌}
use Rattle.fits_values.proofs.Parted.{apart_more, marked_more}
use Rattle.fits_values.proofs.apart.are_apart.Goals as goal

pub loop-satellite-preserved : goal.loop-satellite-preserved
loop-satellite-preserved c =
    let t = c.args.satellites.now in
    let l = c.loop-satellite in (
      marked_more t l.satellite-index c.loop-satellite-test.true l.seen l.invariant.0 c.if-s-ge700.false,
      sym (apart_more t l.satellite-index c.loop-satellite-test.true l.seen l.invariant.0 c.if-s-ge700.false c.if-seen-s.false) ∙ l.invariant.1,
    )
