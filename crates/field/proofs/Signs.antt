-- Numbers under a sign. Assumes nothing.
use Prim.Native.Nat.{ℕ, zero, suc, ◌^◌, ◌<◌}
use mathlib.Core.Path.{◌≡◌, refl, sym, ◌∙◌}
use mathlib.Core.Bool.{Bool, true, false, true≢false}
use native.Mathlib.Omega.{arith}
use borrow.Author.Tests.{le-ltb}
use lib.IntN.{ℤ, pos, negsuc, nat_abs, neg_ℤ}
use lib.Signed.{lt_z}
use mir.Syntax.{w64}
use mir.Val.{SFits}
use Rattle.field.specs.Field.{signed}

pub signed_size : (m : Bool) (n : ℕ) → nat_abs (signed m n) ≡ n
signed_size true zero = refl
signed_size true (suc n) = refl
signed_size false n = refl

pub neg_fits : (n : ℕ) → n < 2 ^ 63 → SFits w64 (neg_ℤ (pos n))
neg_fits zero h = record { sfits = h }
neg_fits (suc k) h = record { sfits = omega arith }

pub minus_is : (z : ℤ) → lt_z z (pos 0) ≡ true → (n : ℕ) × (z ≡ negsuc n)
minus_is (pos n) e = absurd (true≢false (sym e ∙ le-ltb n 0 (omega arith)))
minus_is (negsuc n) e = (n, refl)

pub plus_is : (z : ℤ) → lt_z z (pos 0) ≡ false → (n : ℕ) × (z ≡ pos n)
plus_is (pos n) e = (n, refl)
plus_is (negsuc n) e = absurd (true≢false e)
