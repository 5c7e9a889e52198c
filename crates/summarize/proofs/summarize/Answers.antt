-- `summarize::summarize` meets its promise. Assumes nothing.
use native.Mathlib.Omega.{arith}
use Rattle.summarize.proofs.Told.{told_refused, epochs_few, slots_few, told_taken}
use Rattle.summarize.proofs.summarize.Goals as goal

pub returns-then-r-ne0 : goal.returns-then-r-ne0
returns-then-r-ne0 c = record { summary = told_refused c.args.text.now _ c.read-r.result (omega arith) c.read-r.ensures _ c.if-r-ne0.true c.refused.ensures.is; whole = c.refused.ensures.whole }

pub below-epochs-requires : goal.below-epochs-requires
below-epochs-requires c = omega (arith, epochs_few c.args.text.now _ c.read-r.result (omega arith) c.read-r.ensures c.if-r-ne0.false)

pub below-blank-requires : goal.below-blank-requires
below-blank-requires c = omega (arith, slots_few c.args.text.now _ c.read-r.result (omega arith) c.read-r.ensures c.if-r-ne0.false)

pub returns : goal.returns
returns c = record { summary = told_taken c.args.text.now _ c.read-r.result (omega arith) c.read-r.ensures c.if-r-ne0.false _ _ _ c.below-epochs.ensures.value c.below-blank.ensures.value c.accepted.ensures.is; whole = c.accepted.ensures.whole }
