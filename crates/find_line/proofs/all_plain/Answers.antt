-- `find_line::all_plain` meets its contract. The invariant: what is known with the bytes that are left is known of all. Assumes nothing.
use mathlib.Core.Path.{refl, ◌∙◌}
use native.Mathlib.Omega.{arith}
use Rattle.line.specs.Text.{is_plain}
use Rattle.lists.proofs.Every.{every_told}
use Rattle.find_line.proofs.Finding.{seen_more}
use Rattle.find_line.proofs.all_plain.Goals as goal

pub loop-b-init : goal.loop-b-init
loop-b-init c = refl

pub loop-b-preserved : goal.loop-b-preserved
loop-b-preserved c = seen_more c.args.block.now c.loop-b.b-index c.loop-b.others (omega arith) ∙ c.loop-b.invariant

pub returns : goal.returns
returns c = every_told is_plain c.args.block.now c.loop-b.b-index c.loop-b.others (omega arith) c.loop-b.invariant
