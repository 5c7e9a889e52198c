-- `columns::put_given` meets its contract. Assumes nothing.
use mir.Syntax.{w64}
use mir.ValLaws.{to_z-of_z}
use Rattle.columns.proofs.States.{blanks_put, number_put}
use Rattle.columns.proofs.put_given.Goals as goal

pub put_decimal-requires : goal.put_decimal-requires
put_decimal-requires c = (c.requires.0, rw (to_z-of_z w64 c.args.z c.ranges.z) (c.requires.1 c.if-state-eq0.false))

pub returns-then-state-eq0 : goal.returns-then-state-eq0
returns-then-state-eq0 c = let a = c.args in blanks_put a.out.now _ a.at a.w a.d a.state a.z c.if-state-eq0.true c.put_blanks.ensures

pub returns-else-state-eq0 : goal.returns-else-state-eq0
returns-else-state-eq0 c = let a = c.args in number_put a.out.now _ a.at a.w a.d a.state _ a.z (to_z-of_z w64 a.z c.ranges.z) c.if-state-eq0.false c.put_decimal.ensures
