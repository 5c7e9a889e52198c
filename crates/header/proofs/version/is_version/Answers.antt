-- `header::version::is_version` meets its contract. Assumes nothing.
use Prim.Native.Nat.{ℕ}
use mathlib.Core.Path.{◌∙◌, ap, refl}
use mathlib.Core.List.{List}
use Rattle.lists.specs.Lists.{bytes, same}
use Rattle.header.proofs.version.is_version.Goals as goal

pub returns : goal.returns
returns c = c.same.ensures ∙ ap (λ (s : List ℕ). same s (bytes "     3.03")) (c.columns.ensures 9 refl)
