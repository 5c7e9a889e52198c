-- Numbers below zero, turned round as the machine has them. Assumes nothing.
use Prim.Native.Nat.{ℕ, zero, suc, ◌-◌, ◌^◌, ◌<◌}
use mathlib.Core.Path.{◌≡◌, refl, ◌∙◌}
use native.Mathlib.Omega.{arith}
use borrow.Author.Tests.{le-ltb, le-leb}
use lib.IntN.{ℤ, pos, negsuc, neg_ℤ, ◌+ℤ◌, ◌-ℤ◌, +ℤ_idl, neg_ℤ-neg_ℤ}
use lib.Signed.{lt_z}
use mir.Syntax.{w64}
use mir.Val.{SFits, to_z, of_z}
use mir.ValLaws.{to_z-of_z}
use Rattle.field.proofs.Signs.{neg_fits}
use Rattle.write_field.specs.Steps.{is_minus}

pub minus_test : (z : ℤ) → lt_z z (pos 0) ≡ is_minus z
minus_test (pos n) = le-ltb n 0 (omega arith)
minus_test (negsuc n) = refl

-- z + 1, of a number below zero
plus_one : (n : ℕ) → negsuc n +ℤ pos 1 ≡ neg_ℤ (pos n)
plus_one zero = refl
plus_one (suc n) =
    let e : suc (suc n) - 2 ≡ n = omega arith in
    rw (le-leb 2 (suc (suc n)) (omega arith), e)

-- -(z + 1), of a number below zero, as the machine has it
module _ (z : ℤ) (n : ℕ) (f : SFits w64 z) (e : z ≡ negsuc n) where
  pub small : n < 2 ^ 63
  small = rw e at f.sfits

  pub one_more : to_z w64 (of_z w64 z) +ℤ pos 1 ≡ neg_ℤ (pos n)
  one_more = rw (to_z-of_z w64 z f, e) (plus_one n)

  pub one_fits : SFits w64 (to_z w64 (of_z w64 z) +ℤ pos 1)
  one_fits = rw one_more (neg_fits n small)

  pub turned : pos 0 -ℤ to_z w64 (of_z w64 (to_z w64 (of_z w64 z) +ℤ pos 1)) ≡ pos n
  turned = rw (to_z-of_z w64 (to_z w64 (of_z w64 z) +ℤ pos 1) one_fits, one_more, +ℤ_idl, neg_ℤ-neg_ℤ)

  pub turned_fits : SFits w64 (pos 0 -ℤ to_z w64 (of_z w64 (to_z w64 (of_z w64 z) +ℤ pos 1)))
  turned_fits = rw turned (record { sfits = small })

  pub turned_is : to_z w64 (of_z w64 (pos 0 -ℤ to_z w64 (of_z w64 (to_z w64 (of_z w64 z) +ℤ pos 1)))) ≡ pos n
  turned_is = to_z-of_z w64 (pos 0 -ℤ to_z w64 (of_z w64 (to_z w64 (of_z w64 z) +ℤ pos 1))) turned_fits ∙ turned
