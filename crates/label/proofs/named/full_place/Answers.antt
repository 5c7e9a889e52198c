-- `label::named::full_place` meets its contract: its labels are those of 20 letters, by computation. Assumes nothing.
use mathlib.Core.Path.{refl}
use Rattle.line.specs.Text.{cut}
use Rattle.label.specs.Labels.{labels, known, padded}
use Rattle.label.specs.Groups.{sized, group_fits}
use Rattle.label.proofs.Groups.{of_length}
use Rattle.label.proofs.named.full_place.Goals as goal

pub found-requires : goal.found-requires
unfolding cut group_fits known labels padded sized
found-requires c = of_length c.args.name.now _ _ 20 c.requires.1 c.requires.0 refl
