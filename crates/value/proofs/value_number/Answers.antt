-- `value::value_number` meets its contract. Assumes nothing.
use mathlib.Core.Path.{◌∙◌}
use native.Mathlib.Omega.{arith}
use mir.Syntax.{w64}
use mir.Val.{SFits}
use mir.ValLaws.{to_z-of_z}
use lib.ListN.{length-take}
use Rattle.value.proofs.Points.{value_number}
use borrow.Author.Rules.{rules}
use Rattle.value.proofs.value_number.Goals as goal

pub slice_bounds-number-end : goal.slice_bounds-number-end
slice_bounds-number-end c = simp length-take (omega arith)

pub number-whole-requires : goal.number-whole-requires
number-whole-requires c = simp length-take (omega arith)

pub slice_bounds-has_minus-end : goal.slice_bounds-has_minus-end
slice_bounds-has_minus-end c = simp length-take (omega arith)

pub returns : goal.returns
returns c =
    let fits : SFits w64 c.signed.result = search rules in
    to_z-of_z w64 c.signed.result fits
    ∙ (c.signed.ensures ∙ value_number c.args.s.now c.requires.0 c.requires.1 c.has_minus.ensures c.number-whole.ensures.0 c.number-part.ensures.0)
