-- `label::named::place_in` meets its contract: the label is what stands in columns 61 to 80, without its trailing blanks. Assumes nothing.
use Prim.Native.Nat.{ℕ}
use mathlib.Core.Path.{◌∙◌, ap}
use mathlib.Core.List.{List}
use Rattle.lists.specs.Lists.{same, place}
use Rattle.label.specs.Labels.{labels, label_place}
use Rattle.label.proofs.Cuts.{label_empty, label_name, label_filled}
use Rattle.label.proofs.named.place_in.Goals as goal

pub returns-then-end-le60 : goal.returns-then-end-le60
returns-then-end-le60 c = label_empty c.args.line.now c.label_end-end.result c.label_end-end.ensures.1 c.if-end-le60.true

pub place_of-requires : goal.place_of-requires
place_of-requires c = label_name c.args.line.now c.label_end-end.result c.label_end-end.ensures.1 c.if-end-le60.false c.label_end-end.ensures.0

pub returns : goal.returns
unfolding label_place
returns c = c.place_of.ensures ∙ ap (λ (s : List ℕ). place same s labels) (label_filled c.args.line.now c.label_end-end.result c.label_end-end.ensures.1)
