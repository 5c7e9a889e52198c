-- `value::number` meets its contract. The invariant: with what is left the number is the whole. Assumes nothing.
use Prim.Native.Nat.{◌^◌, ◌<◌}
use mathlib.Core.Path.{refl, ◌∙◌}
use native.Mathlib.Omega.{arith}
use lib.ListN.{drop_of_length-le}
use Rattle.value.proofs.Points.{number_below, number_grows, number_turn}
use Rattle.value.proofs.number.Goals as goal

pub loop-b-init : goal.loop-b-init
loop-b-init c = (refl, omega arith)

pub overflow_mul-v : goal.overflow_mul-v
overflow_mul-v c =
    let small : c.loop-b.v < 10 ^ 12 =
    number_below c.loop-b.v c.loop-b.b-index c.loop-b.invariant.1 (omega (arith, c.requires)) in
    omega (arith, small)

pub overflow_add-v : goal.overflow_add-v
overflow_add-v c =
    let small : c.loop-b.v < 10 ^ 12 =
    number_below c.loop-b.v c.loop-b.b-index c.loop-b.invariant.1 (omega (arith, c.requires)) in
    omega (arith, small, c.digit.ensures.1)

pub loop-b-preserved : goal.loop-b-preserved
loop-b-preserved c = (
  number_turn c.args.s.now c.loop-b.b-index (omega arith) c.loop-b.v c.digit.ensures.0 ∙ c.loop-b.invariant.0,
  number_grows c.loop-b.v _ c.loop-b.b-index c.loop-b.invariant.1 c.digit.ensures.1,
)

pub returns : goal.returns
returns c =
    let small : c.loop-b.v < 10 ^ 12 =
    number_below c.loop-b.v c.loop-b.b-index c.loop-b.invariant.1 (omega (arith, c.requires)) in
    (rw (drop_of_length-le c.args.s.now c.loop-b-test.false) at c.loop-b.invariant.0, small)
