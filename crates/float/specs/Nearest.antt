-- The double that is nearest to a fraction.
use Rattle.std.specs.Prelude.{ℕ, suc, true, false, ℤ, pos, negsuc, Float}
use Rattle.std.specs.Float.{binary64}
use Rattle.std.specs.Float.Ieee.{round}

-- the double nearest to z / c, and at a tie the even one; negsuc n is -(n + 1)
unfoldable pub nearest_to : ℤ → ℕ → Float
nearest_to (pos n) c = round binary64 false n c
nearest_to (negsuc n) c = round binary64 true (suc n) c
