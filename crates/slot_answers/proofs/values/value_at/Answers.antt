-- `slot_answers::values::value_at` meets its contract. Assumes nothing.
use native.Mathlib.Omega.{arith}
use mathlib.Core.Path.{◌≡◌, ap, ◌∙◌}
use lib.IntN.{ℤ, pos}
use lib.ListN.{get_or}
use mir.Syntax.{w64}
use mir.Val.{to_z, of_z}
use mir.ValLaws.{to_z-of_z}
use Rattle.rinex.specs.Answers.{thousandth, measured}
use Rattle.float.specs.Nearest.{nearest_to}
use Rattle.slot_answers.proofs.Valued.{value_is}
use Rattle.slot_answers.proofs.values.value_at.Goals as goal

pub thousandths-requires : goal.thousandths-requires
thousandths-requires c =
    let passed_on : to_z w64 (of_z w64 (get_or c.args.numbers.now c.args.i (pos 0))) ≡ get_or c.args.numbers.now c.args.i (pos 0) =
    let a = c.args in to_z-of_z w64 (get_or a.numbers.now a.i (pos 0)) (record { sfits = omega arith }) in
    rw passed_on c.requires.1.1

pub returns : goal.returns
unfolding thousandth
returns c =
    let passed_on : to_z w64 (of_z w64 (get_or c.args.numbers.now c.args.i (pos 0))) ≡ get_or c.args.numbers.now c.args.i (pos 0) =
    let a = c.args in to_z-of_z w64 (get_or a.numbers.now a.i (pos 0)) (record { sfits = omega arith }) in
    let a = c.args in
    c.measured.ensures
    ∙ (ap (measured a.first) (c.thousandths.ensures ∙ ap (λ (z : ℤ). nearest_to z 1000) passed_on)
    ∙ value_is a.first (get_or a.states.now a.i 0) (get_or a.numbers.now a.i (pos 0)) c.if-states-i-eq0.false)
