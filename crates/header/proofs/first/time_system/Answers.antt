-- `header::first::time_system` meets its contract. Assumes nothing.
use Prim.Native.Nat.{ℕ}
use mathlib.Core.Path.{◌∙◌, ap, refl}
use mathlib.Core.List.{List}
use Rattle.lists.specs.Lists.{same, place}
use Rattle.rinex.specs.Codes.{time_systems}
use Rattle.header.specs.Lines.{time_system_at}
use Rattle.header.proofs.first.time_system.Goals as goal

pub returns : goal.returns
unfolding time_system_at
returns c = c.time_place.ensures ∙ ap (λ (s : List ℕ). place same s time_systems) (c.columns.ensures 51 refl)
