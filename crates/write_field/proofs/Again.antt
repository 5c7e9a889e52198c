-- What is written reads back as the number. Assumes nothing.
use Prim.Native.Nat.{ℕ, ◌≤◌, ◌<◌}
use mathlib.Core.Path.{◌≡◌}
use mathlib.Core.Bool.{true}
use Rattle.std.specs.Prelude.{Option, Some, Result, Ok}
use lib.IntN.{ℤ, pos, nat_abs}
use Rattle.field.specs.Reading.{most, ReadsWhole, ReadsDecimal, ReadsSecond}
use Rattle.field.specs.declared.Unfit.{Unfit}
use Rattle.field.proofs.Settled.{reads_whole_one, reads_decimal_one, reads_second_one}
use Rattle.write_field.specs.Normal.{whole, fixed, decimal, whole_fits, decimal_fits}
use Rattle.write_field.proofs.Written.{whole_spelled, fixed_spelled, decimal_spelled, second_spelled}

pub whole_again : (w n : ℕ) → whole_fits w n ≡ true → n < most → (r : Result (Option ℕ) Unfit) → ReadsWhole (whole w n) r → r ≡ Ok (Some n)
whole_again w n f k r p = reads_whole_one (whole w n) r (Ok (Some n)) p (whole_spelled w n f, k)

pub fixed_again : (w n : ℕ) → whole_fits w n ≡ true → n < most → (r : Result (Option ℕ) Unfit) → ReadsWhole (fixed w n) r → r ≡ Ok (Some n)
fixed_again w n f k r p = reads_whole_one (fixed w n) r (Ok (Some n)) p (fixed_spelled w n f, k)

pub decimal_again : (w d : ℕ) (z : ℤ) → decimal_fits w d z ≡ true → nat_abs z < most → (r : Result (Option ℤ) Unfit) → ReadsDecimal d (decimal w d z) r → r ≡ Ok (Some z)
decimal_again w d z f k r p = reads_decimal_one d (decimal w d z) r (Ok (Some z)) p (decimal_spelled w d z f, k)

pub second_again : (w n : ℕ) → 10 ≤ w → n < 600000000 → (r : Result (Option ℕ) Unfit) → ReadsSecond (decimal w 7 (pos n)) r → r ≡ Ok (Some n)
second_again w n l k r p = reads_second_one (decimal w 7 (pos n)) r (Ok (Some n)) p (second_spelled w n l k)
