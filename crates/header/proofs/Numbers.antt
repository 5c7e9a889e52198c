-- The numbers of a header's fields fit where they are handed on, and INTERVAL is above 0 where its thousandths are. Assumes nothing.
use Prim.Native.Nat.{◌<◌}
use mathlib.Core.Path.{◌≡◌, refl}
use Rattle.std.specs.Prelude.{Option, None, Some}
use native.Mathlib.Omega.{arith}
use lib.Dec.{ltb}
use lib.IntN.{ℤ, pos, negsuc, nat_abs}
use mir.Syntax.{w64}
use mir.Val.{SFits}
use Rattle.field.specs.Reading.{most}
use Rattle.rinex.specs.Tests.{is_above}
use Rattle.header.specs.Lines.{above}

-- what is handed on fits an i64
pub decimal_fits_lem : (z : ℤ) → nat_abs z < most → SFits w64 z
decimal_fits_lem (pos n) h = record { sfits = omega arith }
decimal_fits_lem (negsuc n) h = record { sfits = omega arith }

pub is_above_lem : (o : Option ℤ) → is_above o ≡ ltb 0 (above o)
is_above_lem None = refl
is_above_lem (Some (pos n)) = refl
is_above_lem (Some (negsuc n)) = refl
