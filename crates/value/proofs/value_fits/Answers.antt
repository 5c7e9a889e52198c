-- `value::value_fits` meets its contract: with a point in its place what stands around it decides, without it the blanks. Assumes nothing.
use mathlib.Core.Path.{◌∙◌}
use native.Mathlib.Omega.{arith}
use lib.ListN.{length-take}
use Rattle.value.proofs.Points.{value_point, value_none}
use Rattle.value.proofs.value_fits.Goals as goal

pub returns-then-s-ne46 : goal.returns-then-s-ne46
returns-then-s-ne46 c = c.is_blank.ensures ∙ value_none c.args.s.now c.requires c.if-s-ne46.true

pub slice_bounds-lead_fits-end : goal.slice_bounds-lead_fits-end
slice_bounds-lead_fits-end c = simp length-take (omega arith)

pub lead_fits-requires : goal.lead_fits-requires
lead_fits-requires c = simp length-take (omega arith)

pub returns : goal.returns
returns c = value_point c.args.s.now c.requires c.if-s-ne46.false c.lead_fits.ensures c.is_digit.ensures c.is_digit-2.ensures c.is_digit-3.ensures
