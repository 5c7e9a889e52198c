-- `label::named::label` meets its contract. Assumes nothing.
use mathlib.Core.Path.{◌∙◌, ap, sym}
use Rattle.label.specs.Labels.{kind_at}
use Rattle.label.proofs.Labels.{label_kind}
use Rattle.label.proofs.named.label.Goals as goal

pub returns : goal.returns
returns c = c.kind.ensures ∙ (ap kind_at c.label_place.ensures ∙ sym (label_kind c.args.line.now))
