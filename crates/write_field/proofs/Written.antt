-- What is written is spelled, and a field holds exactly the numbers that fit it. Assumes nothing.
use Prim.Native.Nat.{ℕ, zero, suc, ◌+◌, ◌-◌, ◌*◌, ◌/◌, ◌%◌, ◌^◌, ◌≤◌, ◌<◌}
use mathlib.Core.Path.{◌≡◌, refl, sym, ap, ◌∙◌}
use mathlib.Core.Bool.{Bool, true, false, cond}
use mathlib.Core.List.{List, [], ◌∷◌, ◌++◌}
use native.Mathlib.Nat.{pow-suc, pow-succ', div-div-eq-div-mul, div-lt_iff_lt-mul, div-one, div-eq_of_lt}
use native.Mathlib.Omega.{arith}
use borrow.Author.Tests.{le-leb, leb-true, lt-ltb, ltb-true, ltb-false}
use lib.Dec.{leb, ltb}
use lib.IntN.{ℤ, pos, negsuc, nat_abs}
use lib.ListN.{length, length-append, length-replicate}
use lib.Pow.{pow-add}
use Rattle.lists.specs.Blank.{blanks}
use Rattle.lists.proofs.Bools.{both, all_of}
use Rattle.lists.proofs.Every.{every_on}
use Rattle.field.specs.Field.{is_digit, are_digits, value_of, Whole, Plain, sign, signed, Decimal, Second}
use Rattle.write_field.specs.Normal.{right, digit, fixed, digits, whole, plain, decimal, whole_fits, decimal_fits}
use Rattle.write_field.specs.Steps.{is_minus, HasRoom}
use Rattle.field.proofs.Digits.{value_append, digits_below, power}
use Rattle.field.proofs.Found.{plain_length}

digit_is : (n : ℕ) → are_digits (digit n ∷ []) ≡ true
digit_is n = all_of (is_digit (digit n)) true (all_of (leb 48 (48 + n % 10)) _ (le-leb 48 (48 + n % 10) (omega arith)) (le-leb (48 + n % 10) 57 (omega arith))) refl

-- n in exactly w digits
pub fixed_digits : (w n : ℕ) → are_digits (fixed w n) ≡ true
unfolding fixed
fixed_digits zero n = refl
fixed_digits (suc w) n = every_on is_digit (fixed w (n / 10)) (digit n ∷ []) (fixed_digits w (n / 10)) (digit_is n)

pub fixed_length : (w n : ℕ) → length (fixed w n) ≡ w
unfolding fixed
fixed_length zero n = refl
fixed_length (suc w) n = rw length-append (omega (arith, fixed_length w (n / 10)))

pub div_more : (n w : ℕ) → n / 10 / 10 ^ w ≡ n / 10 ^ suc w
div_more n w = div-div-eq-div-mul n 10 (10 ^ w) ∙ sym (ap (λ (k : ℕ). n / k) (pow-succ' 10 w))

-- after the number of what stands before them
fixed_value : (w n : ℕ) → value_of (n / 10 ^ w) (fixed w n) ≡ n
unfolding fixed
fixed_value zero n = div-one n
fixed_value (suc w) n =
    rw (← div_more n w, value_append (n / 10 / 10 ^ w) (fixed w (n / 10)) (digit n ∷ [])) (omega (arith, fixed_value w (n / 10)))

-- n with no leading zeros
pub digits_digits : (w n : ℕ) → are_digits (digits w n) ≡ true
unfolding digits
digits_digits zero n = refl
digits_digits (suc w) n = go (ltb n 10) (digits_digits w (n / 10))
  where
    go : (b : Bool) → are_digits (digits w (n / 10)) ≡ true → are_digits (cond b (digit n ∷ []) (digits w (n / 10) ++ (digit n ∷ []))) ≡ true
    go true h = digit_is n
    go false h = every_on is_digit (digits w (n / 10)) (digit n ∷ []) h (digit_is n)

pub digits_some : (w n : ℕ) → 1 ≤ w → 1 ≤ length (digits w n)
unfolding digits
digits_some zero n h = absurd (omega arith)
digits_some (suc w) n h = go (ltb n 10)
  where
    go : (b : Bool) → 1 ≤ length (cond b (digit n ∷ []) (digits w (n / 10) ++ (digit n ∷ [])))
    go true = omega arith
    go false = omega (arith, length-append (digits w (n / 10)) (digit n ∷ []))

pub digits_value : (w n : ℕ) → n < 10 ^ w → value_of 0 (digits w n) ≡ n
unfolding digits
digits_value zero n h = omega arith
digits_value (suc w) n h = go (ltb n 10) refl (digits_value w (n / 10) (omega (arith, pow-suc 10 w)))
  where
    go : (b : Bool) → ltb n 10 ≡ b → value_of 0 (digits w (n / 10)) ≡ n / 10 → value_of 0 (cond b (digit n ∷ []) (digits w (n / 10) ++ (digit n ∷ []))) ≡ n
    go true e h = omega (arith, ltb-true n 10 e)
    go false e h = value_append 0 (digits w (n / 10)) (digit n ∷ []) ∙ omega (arith, h)

pub digits_length : (w n k : ℕ) → n < 10 ^ k → 1 ≤ k → length (digits w n) ≤ k
unfolding digits
digits_length zero n k h p = omega arith
digits_length (suc w) n zero h p = absurd (omega arith)
digits_length (suc w) n (suc k) h p = go (ltb n 10) refl (digits_length w (n / 10) k)
  where
    two : (k : ℕ) → n < 10 ^ suc k → 10 ≤ n → 1 ≤ k
    two zero h q = absurd (omega arith)
    two (suc k) h q = omega arith

    go : (b : Bool) → ltb n 10 ≡ b → (n / 10 < 10 ^ k → 1 ≤ k → length (digits w (n / 10)) ≤ k) → length (cond b (digit n ∷ []) (digits w (n / 10) ++ (digit n ∷ []))) ≤ suc k
    go true e ih = omega arith
    go false e ih =
        let u : n / 10 < 10 ^ k = omega (arith, pow-suc 10 k) in
        rw length-append (omega (arith, ih u (two k h (ltb-false n 10 e))))

-- at the right of w columns
pub right_length : (w : ℕ) (s : List ℕ) → length s ≤ w → length (right w s) ≡ w
unfolding right
right_length w s h = length-append (blanks (w - length s)) s ∙ omega (arith, length-replicate {A = ℕ} (w - length s) 32)

-- Whole numbers
pub record WholeRoom (w n : ℕ) : Type 0 where
  pub column : 1 ≤ w
  pub below : n < 10 ^ w

pub whole_room : (w n : ℕ) → whole_fits w n ≡ true → WholeRoom w n
unfolding whole_fits
whole_room w n h = let p = both (leb 1 w) (ltb n (10 ^ w)) h in record { column = leb-true 1 w p.0; below = ltb-true n (10 ^ w) p.1 }

pub room_whole : (w n : ℕ) → WholeRoom w n → whole_fits w n ≡ true
unfolding whole_fits
room_whole w n r = all_of (leb 1 w) (ltb n (10 ^ w)) (le-leb 1 w r.column) (lt-ltb n (10 ^ w) r.below)

module _ (w n : ℕ) (h : whole_fits w n ≡ true) where
  pub whole_spelled : Whole (whole w n) n
  unfolding whole right
  whole_spelled =
      let r = whole_room w n h in
      record {
        lead = w - length (digits w n);
        digits = digits w n;
        spelled = refl;
        some_digit = digits_some w n r.column;
        all_digits = digits_digits w n;
        number = sym (digits_value w n r.below);
      }

  pub whole_length : length (whole w n) ≡ w
  unfolding whole
  whole_length = let r = whole_room w n h in right_length w (digits w n) (digits_length w n w r.below r.column)

  pub fixed_spelled : Whole (fixed w n) n
  fixed_spelled =
      let r = whole_room w n h in
      record {
        lead = 0;
        digits = fixed w n;
        spelled = refl;
        some_digit = omega (arith, fixed_length w n, r.column);
        all_digits = fixed_digits w n;
        number = sym (fixed_number r.below);
      }
    where
      fixed_number : n < 10 ^ w → value_of 0 (fixed w n) ≡ n
      fixed_number k = let z : n / 10 ^ w ≡ 0 = div-eq_of_lt k in rw z at (fixed_value w n)

-- a field holds the number that it spells
pub whole_holds : (s : List ℕ) (n : ℕ) → Whole s n → whole_fits (length s) n ≡ true
whole_holds s n q =
    let a : length s ≡ q.lead + length q.digits =
    ap length q.spelled ∙ length-append (blanks q.lead) q.digits ∙ omega (arith, length-replicate {A = ℕ} q.lead 32) in
    room_whole (length s) n
    (record {
      column = omega (arith, q.some_digit);
      below = omega (arith, digits_below q.digits q.all_digits, power (length q.digits) (length s) (omega arith), q.number);
    })

-- Decimals
module _ (m : Bool) (n d w : ℕ) (r : HasRoom m n d w) where
  abbrev before : ℕ
  before = w - (length (sign m) + 1) - d

  pub few : n / 10 ^ d < 10 ^ before
  few =
      let e : w - (length (sign m) + 1) ≡ before + d = omega (arith, r.decimals) in
      let p : 0 < 10 ^ d = omega (arith, power 0 d (omega arith)) in
      let h : n < 10 ^ before * 10 ^ d = rw (← pow-add, ← e) r.digits in
      (div-lt_iff_lt-mul p).1 h

  pub plain_spelled : Plain d (plain w d n) n
  unfolding plain
  plain_spelled =
      let b : n / 10 ^ d < 10 ^ w = omega (arith, few, power before w (omega arith)) in
      record {
        whole = digits w (n / 10 ^ d);
        part = fixed d n;
        spelled = refl;
        all_digits = every_on is_digit (digits w (n / 10 ^ d)) (fixed d n) (digits_digits w (n / 10 ^ d)) (fixed_digits d n);
        decimals = fixed_length d n;
        number = sym (value_append 0 (digits w (n / 10 ^ d)) (fixed d n) ∙ rw (digits_value w (n / 10 ^ d) b) (fixed_value d n));
      }

  pub plain_short : length (sign m ++ plain w d n) ≤ w
  unfolding plain
  plain_short =
      omega (
        arith,
        r.decimals,
        length-append (sign m) (digits w (n / 10 ^ d) ++ (46 ∷ fixed d n)),
        length-append (digits w (n / 10 ^ d)) (46 ∷ fixed d n),
        digits_length w (n / 10 ^ d) before few (omega (arith, r.decimals)),
        fixed_length d n,
      )

-- by the number's sign
pub decimal_room : (w d : ℕ) (z : ℤ) → decimal_fits w d z ≡ true → HasRoom (is_minus z) (nat_abs z) d w
unfolding decimal_fits
decimal_room w d (pos n) h =
    let p = both (leb (d + 2) w) (ltb n (10 ^ (w - 1))) h in
    record { decimals = omega (arith, leb-true (d + 2) w p.0); digits = ltb-true n (10 ^ (w - 1)) p.1 }
decimal_room w d (negsuc n) h =
    let p = both (leb (d + 3) w) (ltb (suc n) (10 ^ (w - 2))) h in
    record { decimals = omega (arith, leb-true (d + 3) w p.0); digits = ltb-true (suc n) (10 ^ (w - 2)) p.1 }

pub room_decimal : (w d : ℕ) (z : ℤ) → HasRoom (is_minus z) (nat_abs z) d w → decimal_fits w d z ≡ true
unfolding decimal_fits
room_decimal w d (pos n) r = all_of (leb (d + 2) w) (ltb n (10 ^ (w - 1))) (le-leb (d + 2) w (omega (arith, r.decimals))) (lt-ltb n (10 ^ (w - 1)) r.digits)
room_decimal w d (negsuc n) r = all_of (leb (d + 3) w) (ltb (suc n) (10 ^ (w - 2))) (le-leb (d + 3) w (omega (arith, r.decimals))) (lt-ltb (suc n) (10 ^ (w - 2)) r.digits)

pub decimal_unfit : (w d : ℕ) (z : ℤ) → (HasRoom (is_minus z) (nat_abs z) d w → ⊥) → decimal_fits w d z ≡ false
decimal_unfit w d z h = go (decimal_fits w d z) refl
  where
    go : (b : Bool) → decimal_fits w d z ≡ b → b ≡ false
    go true e = absurd (h (decimal_room w d z e))
    go false e = refl

pub decimal_is : (w d : ℕ) (z : ℤ) → decimal w d z ≡ right w (sign (is_minus z) ++ plain w d (nat_abs z))
unfolding decimal
decimal_is w d (pos n) = refl
decimal_is w d (negsuc n) = refl

signed_back : (z : ℤ) → z ≡ signed (is_minus z) (nat_abs z)
signed_back (pos n) = refl
signed_back (negsuc n) = refl

module _ (w d : ℕ) (z : ℤ) (h : decimal_fits w d z ≡ true) where
  pub decimal_spelled : Decimal d (decimal w d z) z
  unfolding right
  decimal_spelled =
      rw (decimal_is w d z)
      (record {
        lead = w - length (sign (is_minus z) ++ plain w d (nat_abs z));
        minus = is_minus z;
        rest = plain w d (nat_abs z);
        size = nat_abs z;
        spelled = refl;
        plain = plain_spelled (is_minus z) (nat_abs z) d w (decimal_room w d z h);
        number = signed_back z;
      })

  pub decimal_length : length (decimal w d z) ≡ w
  decimal_length = rw (decimal_is w d z) (right_length w (sign (is_minus z) ++ plain w d (nat_abs z)) (plain_short (is_minus z) (nat_abs z) d w (decimal_room w d z h)))

-- a field with a column for a sign and one digit before the point holds the number that it spells
pub decimal_holds : (d : ℕ) (s : List ℕ) (z : ℤ) → d + 3 ≤ length s → Decimal d s z → decimal_fits (length s) d z ≡ true
decimal_holds d s z room q =
    let a : length s ≡ q.lead + (length (sign q.minus) + length q.rest) =
    ap length q.spelled ∙ length-append (blanks q.lead) (sign q.minus ++ q.rest)
    ∙ omega (arith, length-replicate {A = ℕ} q.lead 32, length-append (sign q.minus) q.rest) in
    let p = q.plain in
    let b = plain_length d q.rest q.size p in
    let c : q.size < 10 ^ (length p.whole + d) =
    omega (arith, p.number, digits_below (p.whole ++ p.part) p.all_digits, power (length (p.whole ++ p.part)) (length p.whole + d) (omega (arith, length-append p.whole p.part, p.decimals))) in
    room_decimal (length s) d z (rw q.number (go q.minus q.size (length p.whole + d) c (omega arith)))
  where
    go : (m : Bool) (n k : ℕ) → n < 10 ^ k → length (sign m) + k + 1 ≤ length s → HasRoom (is_minus (signed m n)) (nat_abs (signed m n)) d (length s)
    go true zero k h l = record { decimals = omega arith; digits = omega (arith, power 0 (length s - 1) (omega arith)) }
    go true (suc n) k h l = record { decimals = omega arith; digits = omega (arith, power k (length s - 2) (omega arith)) }
    go false n k h l = record { decimals = omega arith; digits = omega (arith, power k (length s - 1) (omega arith)) }

-- Seconds
pub second_fits : (w n : ℕ) → 10 ≤ w → n < 600000000 → decimal_fits w 7 (pos n) ≡ true
second_fits w n r h = room_decimal w 7 (pos n) (record { decimals = omega arith; digits = omega (arith, power 9 (w - 1) (omega arith)) })

pub second_spelled : (w n : ℕ) → 10 ≤ w → n < 600000000 → Second (decimal w 7 (pos n)) n
unfolding decimal right plain_spelled
second_spelled w n r h =
    let k : n / 10 ^ 7 < 10 ^ 2 = omega arith in
    record {
      lead = w - length (plain w 7 n);
      rest = plain w 7 n;
      spelled = refl;
      plain = plain_spelled false n 7 w (decimal_room w 7 (pos n) (second_fits w n r h));
      one_digit = digits_some w (n / 10 ^ 7) (omega arith);
      two_digits = digits_length w (n / 10 ^ 7) 2 k (omega arith);
      below = h;
    }
