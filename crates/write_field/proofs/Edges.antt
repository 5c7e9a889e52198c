-- "Both sides of each edge", those marked [P] that concern numbers as they are written, as one table. Assumes nothing.
use Prim.Native.Nat.{ℕ, ◌<◌}
use mathlib.Core.Path.{◌≡◌, refl}
use mathlib.Core.Bool.{true, false}
use mathlib.Core.List.{[], ◌∷◌, map}
use Rattle.std.specs.Prelude.{Option, Some, Result, Ok}
use lib.IntN.{ℤ, pos, negsuc, nat_abs}
use Rattle.lists.specs.Lists.{bytes}
use Rattle.field.specs.Reading.{most, ReadsDecimal}
use Rattle.field.specs.declared.Unfit.{Unfit}
use Rattle.write_field.specs.Normal.{right, fixed, digits, plain, decimal, decimal_fits}
use Rattle.write_field.proofs.Again.{decimal_again}

-- "F14.3 spans -999,999,999,999 to 9,999,999,999,999 thousandths"
spans : map (decimal_fits 14 3) (pos 9999999999999 ∷ pos 10000000000000 ∷ negsuc 999999999998 ∷ negsuc 999999999999 ∷ [])
    ≡ true ∷ false ∷ true ∷ false ∷ []
unfolding decimal_fits
spans = refl

-- normal spellings
spelled : map (decimal 14 3) (pos 0 ∷ pos 353 ∷ negsuc 352 ∷ pos 23619095450 ∷ [])
    ≡ bytes "         0.000" ∷ bytes "         0.353" ∷ bytes "        -0.353" ∷ bytes "  23619095.450" ∷ []
unfolding right fixed digits plain decimal
spelled = refl

-- the fact over the number of decimals, cited for 3, 7 and 12
module _ (z : ℤ) (r : Result (Option ℤ) Unfit) where
  abbrev Again : ℕ → ℕ → Type 0
  Again w d = decimal_fits w d z ≡ true → nat_abs z < most → ReadsDecimal d (decimal w d z) r → r ≡ Ok (Some z)

  three : Again 14 3
  three f k p = decimal_again 14 3 z f k r p

  seven : Again 11 7
  seven f k p = decimal_again 11 7 z f k r p

  twelve : Again 15 12
  twelve f k p = decimal_again 15 12 z f k r p
