-- `spell_header::put_day` meets its contract. Assumes nothing.
use native.Mathlib.Omega.{arith}
use Rattle.moment.proofs.Days.{day_31}
use Rattle.spell_header.proofs.Listed.{day_put}
use Rattle.spell_header.proofs.put_day.Goals as goal

pub put_whole-requires-3 : goal.put_whole-requires-3
put_whole-requires-3 c = (omega (arith, c.requires.0), (omega arith, omega (arith, day_31 c.args.d c.requires.1)))

pub returns : goal.returns
returns c = day_put c.args.d c.requires.1 c.args.out.now c.put_whole.new.out c.put_whole-2.new.out c.put_whole-3.new.out c.put_whole-4.new.out _ c.put_whole.ensures c.put_whole-2.ensures c.put_whole-3.ensures c.put_whole-4.ensures c.put_whole-5.ensures
