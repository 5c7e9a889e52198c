-- `faults::next_fault` meets its contract: without a fault the codes stand in the table. Assumes nothing.
use mathlib.Core.Path.{sym, ◌∙◌}
use native.Mathlib.Omega.{arith}
use Rattle.std.proofs.lemmas.Grind.{common_steps}
use lib.ListN.{length}
use Rattle.state.specs.Judge.{next_fault, codes_in}
use Rattle.faults.proofs.Headed.{table_next}
use Rattle.faults.proofs.next_fault.Goals as goal

pub returns : goal.returns
unfolding next_fault
returns c =
    let cs = codes_in c.args.c c.args.table.now c.args.c.system in
    let v = c.next_fits.ensures cs (c.requires.system_len.0 ∙ sym c.codes_of-before.ensures) c.requires.system_len.1 in (
      grind (arith, common_steps, v.told),
      v.put c.if-not-next_fits.false ∙ table_next c.args.c c.args.line.now c.args.table.now (length cs) c.requires.system_len.0,
    )
