-- A decimal that fits is one between two bounds. Assumes nothing.
use Prim.Native.Nat.{suc}
use mathlib.Core.Path.{◌≡◌, refl, sym, ◌∙◌}
use mathlib.Core.Bool.{◌&&◌, and-true}
use lib.Dec.{ltb, leb-suc-suc}
use lib.IntN.{ℤ, pos, negsuc}
use lib.Signed.{lt_z}
use Rattle.write_field.specs.Normal.{decimal_fits}

pub in_14_3 : (z : ℤ) → (lt_z (negsuc 999999999999) z && lt_z z (pos 10000000000000)) ≡ decimal_fits 14 3 z
unfolding decimal_fits
in_14_3 (pos n) = refl
in_14_3 (negsuc n) = and-true (ltb n 999999999999) ∙ sym (leb-suc-suc (suc n) 999999999999)

pub in_15_12 : (z : ℤ) → (lt_z (negsuc 9999999999999) z && lt_z z (pos 100000000000000)) ≡ decimal_fits 15 12 z
unfolding decimal_fits
in_15_12 (pos n) = refl
in_15_12 (negsuc n) = and-true (ltb n 9999999999999) ∙ sym (leb-suc-suc (suc n) 9999999999999)
