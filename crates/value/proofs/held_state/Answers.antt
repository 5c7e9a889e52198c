-- `value::held_state` meets its contract: the word is 0 exactly if the number is. Assumes nothing.
use mathlib.Core.Path.{sym, ap, ◌∙◌}
use mir.Syntax.{w64}
use mir.ValLaws.{to_z-of_z}
use mir.Val.{to_z, of_z}
use Rattle.value.proofs.States.{nought_held, given_held}
use Rattle.value.proofs.held_state.Goals as goal

pub returns-then-number-eq0 : goal.returns-then-number-eq0
returns-then-number-eq0 c = nought_held c.args.number (sym (to_z-of_z w64 c.args.number c.ranges.number) ∙ ap (to_z w64) c.if-number-eq0.true)

pub returns-else-number-eq0 : goal.returns-else-number-eq0
returns-else-number-eq0 c = given_held c.args.number (λ e. c.if-number-eq0.false (ap (of_z w64) e))
