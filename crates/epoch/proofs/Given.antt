-- What `unwrap_or` gives of a number that may be missing. Assumes nothing.
use Prim.Native.Nat.{ℕ}
use mathlib.Core.Path.{◌≡◌, refl}
use Rattle.std.specs.Prelude.{Option, None, Some}
use Rattle.std.specs.Option.{unwrap_or}
use Rattle.lists.specs.Maybe.{given}

pub unwrap_given : (k : ℕ) (o : Option ℕ) → unwrap_or o k ≡ given k o
unwrap_given k None = refl
unwrap_given k (Some n) = refl
