-- `value::lead_fits` meets its contract. The invariant: what is left decides as all of it does. Assumes nothing.
use mathlib.Core.Path.{sym, ◌∙◌}
use native.Mathlib.Omega.{arith}
use Rattle.value.proofs.Points.{follow_two, follow_turn, follow_end}
use Rattle.value.proofs.lead_fits.Goals as goal

pub loop-i-init : goal.loop-i-init
loop-i-init c = follow_two c.args.s.now (omega arith) c.may_follow.ensures c.may_follow-2.ensures

pub loop-i-preserved : goal.loop-i-preserved
loop-i-preserved c = follow_turn c.args.s.now c.loop-i.fit c.loop-i.i (omega arith) (omega arith) c.may_follow-fit.ensures ∙ c.loop-i.invariant

pub returns : goal.returns
returns c = sym (follow_end c.args.s.now c.loop-i.fit _ c.loop-i.i (omega arith)) ∙ c.loop-i.invariant
