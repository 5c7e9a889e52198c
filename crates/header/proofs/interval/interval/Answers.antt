-- `header::interval::interval` meets its contract. Assumes nothing.
use Prim.Native.Nat.{ℕ}
use mathlib.Core.Path.{◌∙◌, ap, refl}
use mathlib.Core.List.{List}
use Rattle.field.specs.Found.{decimal_of}
use Rattle.header.specs.Lines.{above, interval_at}
use Rattle.header.proofs.interval.interval.Goals as goal

pub returns : goal.returns
unfolding interval_at
returns c = c.above.ensures ∙ ap (λ (s : List ℕ). above (decimal_of 3 s)) (c.columns.ensures 10 refl)
