-- A field of at most 18 columns: its number is held, so what is read is what `specs/Found` finds. Assumes nothing.
use Prim.Native.Nat.{ℕ, suc, ◌+◌, ◌^◌, ◌≤◌, ◌<◌}
use mathlib.Core.Path.{◌≡◌, ap, ◌∙◌}
use mathlib.Core.List.{List, ◌∷◌, ◌++◌}
use Rattle.std.specs.Prelude.{Option, None, Some, Result, Ok, Err}
use Rattle.std.specs.Result.{result_unwrap_or}
use native.Mathlib.Omega.{arith}
use lib.IntN.{ℤ, nat_abs}
use lib.ListN.{length, length-append}
use Rattle.lists.specs.Blank.{blanks}
use Rattle.lists.proofs.Maybe.{none_found}
use Rattle.field.specs.Field.{Whole, Plain, Decimal, sign}
use Rattle.field.specs.Found.{whole_of, decimal_of, second_of}
use Rattle.field.specs.Reading.{ReadsWhole, ReadsDecimal, ReadsSecond}
use Rattle.field.specs.declared.Unfit.{Unfit}
use Rattle.field.proofs.Found.{whole_found, whole_back, whole_blank, decimal_found, decimal_back, decimal_blank, second_found, second_back, second_blank}
use Rattle.field.proofs.Digits.{digits_below, power}
use Rattle.field.proofs.Signs.{signed_size}

-- a number is below the power of ten of its columns
pub whole_below : (s : List ℕ) (n : ℕ) → Whole s n → n < 10 ^ length s
whole_below s n w =
    let l : length s ≡ length (blanks w.lead) + length w.digits = ap length w.spelled ∙ length-append (blanks w.lead) w.digits in
    let p : 10 ^ length w.digits ≤ 10 ^ length s = power (length w.digits) (length s) (omega arith) in
    omega (arith, p, w.number, digits_below w.digits w.all_digits)

plain_below : (d : ℕ) (s : List ℕ) (n k : ℕ) → length s ≤ k → Plain d s n → n < 10 ^ k
plain_below d s n k h q =
    let l : length s ≡ length q.whole + suc (length q.part) = ap length q.spelled ∙ length-append q.whole (46 ∷ q.part) in
    let m : length (q.whole ++ q.part) ≡ length q.whole + length q.part = length-append q.whole q.part in
    let p : 10 ^ length (q.whole ++ q.part) ≤ 10 ^ k = power (length (q.whole ++ q.part)) k (omega arith) in
    omega (arith, q.number, digits_below (q.whole ++ q.part) q.all_digits)

decimal_below : (d : ℕ) (s : List ℕ) (z : ℤ) → Decimal d s z → nat_abs z < 10 ^ length s
decimal_below d s z q =
    let l : length s ≡ length (blanks q.lead) + length (sign q.minus ++ q.rest) = ap length q.spelled ∙ length-append (blanks q.lead) (sign q.minus ++ q.rest) in
    let m : length (sign q.minus ++ q.rest) ≡ length (sign q.minus) + length q.rest = length-append (sign q.minus) q.rest in
    let e : nat_abs z ≡ q.size = ap nat_abs q.number ∙ signed_size q.minus q.size in
    omega (arith, plain_below d q.rest q.size (length s) (omega arith) q.plain)

module _ (s : List ℕ) (h : length s ≤ 18) where
  pub whole_told_lem : (r : Result (Option ℕ) Unfit) → ReadsWhole s r → whole_of s ≡ result_unwrap_or r None
  whole_told_lem (Ok (Some n)) q = whole_back s n q.0
  whole_told_lem (Ok None) q = whole_blank s q
  whole_told_lem (Err u) q = none_found (whole_of s) (λ n e. let w = whole_found s n e in q.1 n w (omega (arith, whole_below s n w, power (length s) 18 h)))

  pub decimal_told_lem : (d : ℕ) (r : Result (Option ℤ) Unfit) → ReadsDecimal d s r → decimal_of d s ≡ result_unwrap_or r None
  decimal_told_lem d (Ok (Some z)) q = decimal_back d s z q.0
  decimal_told_lem d (Ok None) q = decimal_blank d s q
  decimal_told_lem d (Err u) q = none_found (decimal_of d s) (λ z e. let w = decimal_found d s z e in q.1 z w (omega (arith, decimal_below d s z w, power (length s) 18 h)))

-- a second's number is held at any width
pub second_told : (s : List ℕ) (r : Result (Option ℕ) Unfit) → ReadsSecond s r → second_of s ≡ result_unwrap_or r None
second_told s (Ok (Some n)) q = second_back s n q
second_told s (Ok None) q = second_blank s q
second_told s (Err u) q = none_found (second_of s) (λ n e. q.1 n (second_found s n e))
