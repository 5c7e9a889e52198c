-- `value::has_minus` meets its contract. The invariant: what is left decides as all of it does. Assumes nothing.
use mathlib.Core.Path.{refl, sym, ◌∙◌}
use native.Mathlib.Omega.{arith}
use lib.ListN.{drop_of_length-le}
use Rattle.lists.proofs.Bools.{or_false}
use Rattle.value.proofs.Points.{minus_turn}
use Rattle.value.proofs.has_minus.Goals as goal

pub loop-b-init : goal.loop-b-init
loop-b-init c = refl

pub loop-b-preserved : goal.loop-b-preserved
loop-b-preserved c = minus_turn c.args.s.now c.loop-b.b-index (omega arith) c.loop-b.found ∙ c.loop-b.invariant

pub returns : goal.returns
returns c = sym (or_false c.loop-b.found) ∙ rw (drop_of_length-le c.args.s.now c.loop-b-test.false) at c.loop-b.invariant
