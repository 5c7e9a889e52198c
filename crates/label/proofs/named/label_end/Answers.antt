-- `label::named::label_end` meets its contract. Assumes nothing.
use mathlib.Core.Path.{sym, ap, ◌∙◌}
use native.Mathlib.Omega.{arith}
use lib.ListN.{length-take}
use lib.Seq.{take_all}
use Rattle.line.specs.Text.{cut}
use Rattle.label.proofs.Cuts.{front_is}
use Rattle.label.proofs.named.label_end.Goals as goal

pub returns-then-line-le80 : goal.returns-then-line-le80
returns-then-line-le80 c =
    let l = c.args.line.now in
    (c.cut_length.ensures.0, c.cut_length.ensures.1 ∙ ap cut (sym (take_all 80 l (omega arith))))

pub slice_bounds-cut_length-end : goal.slice_bounds-cut_length-end
slice_bounds-cut_length-end c = simp length-take (omega arith)

pub returns : goal.returns
returns c = front_is c.before.args.line.now _ c.cut_length-2.ensures.0 c.cut_length-2.ensures.1
