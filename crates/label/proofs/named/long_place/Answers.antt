-- `label::named::long_place` meets its contract: the labels of each length are those of its arm, by computation. Assumes nothing.
use mathlib.Core.Path.{refl}
use Rattle.line.specs.Text.{cut}
use Rattle.label.specs.Labels.{labels, known, padded}
use Rattle.label.specs.Groups.{sized, group_fits}
use Rattle.label.proofs.Groups.{of_length}
use Rattle.label.proofs.named.long_place.Goals as goal

pub found-requires : goal.found-requires
unfolding cut group_fits known labels padded sized
found-requires c = of_length c.args.name.now _ _ 17 c.in-17.is c.requires.0 refl

pub found-requires-in-18 : goal.found-requires-in-18
unfolding cut group_fits known labels padded sized
found-requires-in-18 c = of_length c.args.name.now _ _ 18 c.in-18.is c.requires.0 refl

pub found-requires-in-19 : goal.found-requires-in-19
unfolding cut group_fits known labels padded sized
found-requires-in-19 c = of_length c.args.name.now _ _ 19 c.in-19.is c.requires.0 refl
