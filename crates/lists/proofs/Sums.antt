-- The sum of a list from a place on. Assumes nothing.
use Prim.Native.Nat.{ℕ, ◌+◌, ◌≤◌, ◌<◌}
use mathlib.Core.Path.{◌≡◌, ap}
use mathlib.Core.List.{List}
use lib.ListN.{length, get_or, drop, drop_of_length-le}
use Rattle.lists.specs.Lists.{sum}
use Rattle.lists.proofs.Parts.{next}

pub sum_at : (l : List ℕ) (y : ℕ) → y < length l → sum (drop y l) ≡ get_or l y 0 + sum (drop (y + 1) l)
sum_at l y h = ap sum (next l y h)

pub sum_past : (l : List ℕ) (y : ℕ) → length l ≤ y → sum (drop y l) ≡ 0
sum_past l y h = ap sum (drop_of_length-le l h)
