-- What is written in the columns of a field: plain bytes, as many as there are columns. Assumes nothing.
use Prim.Native.Nat.{ℕ, ◌+◌, ◌≤◌, ◌<◌}
use mathlib.Core.Path.{◌≡◌, refl, ◌∙◌}
use mathlib.Core.Bool.{Bool, true, false}
use mathlib.Core.List.{List, [], ◌∷◌, ◌++◌}
use Rattle.std.specs.Prelude.{Option, None, Some}
use native.Mathlib.Omega.{arith}
use lib.IntN.{ℤ}
use lib.ListN.{length, length-append, length-replicate}
use Rattle.lists.specs.Blank.{blanks}
use Rattle.lists.proofs.Every.{every_weaker, every_both, every_replicate}
use Rattle.field.specs.Field.{is_digit, are_digits, value_of, Whole, sign, Decimal, DecimalOrBlank}
use Rattle.write_field.specs.Normal.{fixed, whole, decimal, decimal_or_blank, whole_fits, decimal_fits}
use Rattle.field.proofs.Found.{first}
use Rattle.write_field.proofs.Written.{fixed_digits, fixed_length, room_whole, whole_spelled, whole_length, decimal_spelled, decimal_length, decimal_holds}
use Rattle.line.specs.Text.{is_plain, are_plain}
use Rattle.line.proofs.Columns.{plain_of, plain_append, plain_blanks}

-- plain bytes in w columns
pub record Put (w : ℕ) (s : List ℕ) : Type 0 where
  pub long : length s ≡ w
  pub bytes : are_plain s ≡ true

pub put_append : {a b : ℕ} {s t : List ℕ} → Put a s → Put b t → Put (a + b) (s ++ t)
put_append {s} {t} p q = record { long = length-append s t ∙ rw (p.long, q.long); bytes = plain_append s t p.bytes q.bytes }

pub put_blanks : (n : ℕ) → Put n (blanks n)
put_blanks n = record { long = length-replicate n 32; bytes = plain_blanks n }

-- what spells a number is plain
digit_plain : (x : ℕ) → is_digit x ≡ true → is_plain x ≡ true
digit_plain x h = let f = first x [] (rw h) in plain_of x (omega (arith, f.low)) (omega (arith, f.high))

digits_plain : (s : List ℕ) → are_digits s ≡ true → are_plain s ≡ true
digits_plain s h = every_weaker is_digit is_plain digit_plain s h

whole_plain : (s : List ℕ) (n : ℕ) → Whole s n → are_plain s ≡ true
whole_plain s n q = rw q.spelled (plain_append (blanks q.lead) q.digits (plain_blanks q.lead) (digits_plain q.digits q.all_digits))

sign_plain : (m : Bool) → are_plain (sign m) ≡ true
sign_plain true = refl
sign_plain false = refl

decimal_plain : (d : ℕ) (s : List ℕ) (z : ℤ) → Decimal d s z → are_plain s ≡ true
decimal_plain d s z q =
    let p = q.plain in
    let ds = every_both is_digit p.whole p.part p.all_digits in
    let r : are_plain q.rest ≡ true =
    rw p.spelled (plain_append p.whole (46 ∷ p.part) (digits_plain p.whole ds.0) (digits_plain p.part ds.1)) in
    rw q.spelled (plain_append (blanks q.lead) (sign q.minus ++ q.rest) (plain_blanks q.lead) (plain_append (sign q.minus) q.rest (sign_plain q.minus) r))

-- numbers
pub fixed_put : (w n : ℕ) → Put w (fixed w n)
fixed_put w n = record { long = fixed_length w n; bytes = digits_plain (fixed w n) (fixed_digits w n) }

pub whole_put : (w n : ℕ) → whole_fits w n ≡ true → Put w (whole w n)
whole_put w n h = record { long = whole_length w n h; bytes = whole_plain (whole w n) n (whole_spelled w n h) }

pub decimal_put : (w d : ℕ) (z : ℤ) → decimal_fits w d z ≡ true → Put w (decimal w d z)
decimal_put w d z h = record { long = decimal_length w d z h; bytes = decimal_plain d (decimal w d z) z (decimal_spelled w d z h) }

-- two digits
pub two_fits : (n : ℕ) → n < 100 → whole_fits 2 n ≡ true
two_fits n h = room_whole 2 n (omega arith)

pub two_value : (n : ℕ) → n < 100 → n ≡ value_of 0 (fixed 2 n)
unfolding fixed
two_value n h = omega arith

-- decimals or blanks
abbrev pub FitsOrBlank : ℕ → ℕ → Option ℤ → Type 0
FitsOrBlank w d None = Unit {0}
FitsOrBlank w d (Some z) = decimal_fits w d z ≡ true

module _ (w d : ℕ) where
  pub given_holds : (s : List ℕ) (o : Option ℤ) → d + 3 ≤ w → length s ≡ w → DecimalOrBlank d s o → FitsOrBlank w d o
  given_holds s None r n h = tt
  given_holds s (Some z) r n h = rw n at (decimal_holds d s z (omega arith) h)

  pub given_spelled : (o : Option ℤ) → FitsOrBlank w d o → DecimalOrBlank d (decimal_or_blank w d o) o
  given_spelled None h = every_replicate _ w 32 refl
  given_spelled (Some z) h = decimal_spelled w d z h

  pub given_put : (o : Option ℤ) → FitsOrBlank w d o → Put w (decimal_or_blank w d o)
  given_put None h = put_blanks w
  given_put (Some z) h = decimal_put w d z h
