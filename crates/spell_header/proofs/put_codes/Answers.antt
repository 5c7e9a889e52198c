-- `spell_header::put_codes` meets its contract. Assumes nothing.
use Prim.Native.Nat.{◌+◌, ◌*◌}
use mathlib.Core.Path.{sym, ◌∙◌}
use Rattle.spell_header.proofs.Listed.{codes_more, codes_done}
use borrow.Author.Rules.{rules}
use Rattle.spell_header.proofs.put_codes.Goals as goal

pub loop-i-preserved : goal.loop-i-preserved
loop-i-preserved c =
    let l = c.loop-i in (search rules, codes_more c.args.codes.now l.out c.put_code.new.out l.i (search rules) c.put_code.ensures ∙ l.invariant.1)

pub returns : goal.returns
returns c = let l = c.loop-i in sym (codes_done c.args.codes.now l.out (6 + 4 * l.i) l.i (search rules)) ∙ l.invariant.1
