-- How many digits a number has, counted by dividing it. Assumes nothing.
use Prim.Native.Nat.{ℕ, zero, suc, ◌+◌, ◌-◌, ◌*◌, ◌/◌, ◌^◌, ◌≤◌, ◌<◌}
use mathlib.Core.Path.{◌≡◌, refl, sym, ap, subst, ◌∙◌}
use mathlib.Core.Bool.{Bool, true, false}
use mathlib.Core.List.{List, [], ◌∷◌, ◌++◌}
use native.Mathlib.Nat.{pow-suc, div-div-eq-div-mul, div-lt_iff_lt-mul, one-mul, mul_assoc, mul_comm, sub-zero}
use native.Mathlib.Numerals.{add-one}
use native.Mathlib.Omega.{arith}
use borrow.Author.Tests.{leb-true, leb-false, le-leb}
use lib.Dec.{leb, ltb}
use lib.ListN.{length, get_or}
use Rattle.lists.specs.Blank.{blanks}
use Rattle.write_field.specs.Normal.{digits, right, whole, whole_fits}
use Rattle.write_field.specs.Writing.{HasDigits}
use Rattle.field.proofs.Digits.{digits_below, power}
use Rattle.write_field.proofs.Lead.{lead_right}
use Rattle.write_field.proofs.Written.{digits_digits, digits_some, digits_value, digits_length, whole_room, room_whole}

-- k digits are counted, and what is left stands before them
pub record Counted (n k left : ℕ) : Type 0 where
  pub some_digit : 1 ≤ k
  pub quotient : left ≡ n / 10 ^ k
  pub fewest : (j : ℕ) → 1 ≤ j → n < 10 ^ j → k ≤ j

pub begun : (n : ℕ) → Counted n 1 (n / 10)
begun n = record { some_digit = omega arith; quotient = omega arith; fewest = λ j h k. h }

-- what does not reach a power is below it
below : (n k : ℕ) → n / 10 ^ k ≡ 0 → n < 10 ^ k
below n k e = rw one-mul at ((div-lt_iff_lt-mul {k = 10 ^ k} {x = n} {y = 1} (omega (arith, power 0 k (omega arith)))).0 (omega arith))

reaches : (n k : ℕ) → (n / 10 ^ k ≡ 0 → ⊥) → 10 ^ k ≤ n
reaches n k h = go (leb (10 ^ k) n) refl
  where
    go : (b : Bool) → leb (10 ^ k) n ≡ b → 10 ^ k ≤ n
    go true e = leb-true (10 ^ k) n e
    go false e =
        let p : n < 1 * 10 ^ k = rw one-mul (leb-false (10 ^ k) n e) in
        let q : n / 10 ^ k < 1 = (div-lt_iff_lt-mul {k = 10 ^ k} (omega (arith, power 0 k (omega arith)))).1 p in
        absurd (h (omega arith))

-- a power within a number is no higher than one past it
lower : (n i j : ℕ) → 10 ^ i ≤ n → n < 10 ^ j → i < j
lower n i j a b = go (leb j i) refl
  where
    go : (c : Bool) → leb j i ≡ c → i < j
    go true e = absurd (omega (arith, power j i (leb-true j i e)))
    go false e = leb-false j i e

module _ (n k left : ℕ) (c : Counted n k left) where
  abbrev full : (left ≡ 0 → ⊥) → 10 ^ k ≤ n
  full h = reaches n k (λ e. h (c.quotient ∙ e))

  pub more : (left ≡ 0 → ⊥) → Counted n (k + 1) (left / 10)
  more h =
      record {
        some_digit = omega arith;
        quotient = ap (λ (q : ℕ). q / 10) c.quotient ∙ (div-div-eq-div-mul n (10 ^ k) 10 ∙ ap (λ (q : ℕ). n / q) (sym (pow-suc 10 k) ∙ ap (λ (i : ℕ). 10 ^ i) (sym (add-one k))));
        fewest = λ j i b. omega (arith, lower n k j (full h) b);
      }

  pub few : (left ≡ 0 → ⊥) → n < 2 ^ 64 → k < 20
  few h b = lower n k 20 (full h) (omega arith)

  pub counted : left ≡ 0 → HasDigits n k
  counted e = record { some_digit = c.some_digit; below = below n k (sym c.quotient ∙ e); fewest = c.fewest }

-- as many columns hold it
pub count_fits_lem : (n k w : ℕ) → HasDigits n k → whole_fits w n ≡ leb k w
count_fits_lem n k w c = go (leb k w) (whole_fits w n) refl refl
  where
    go : (a b : Bool) → leb k w ≡ a → whole_fits w n ≡ b → b ≡ a
    go true true e f = refl
    go false false e f = refl
    go true false e f =
        let l : k ≤ w = leb-true k w e in
        sym f ∙ room_whole w n (record { column = omega (arith, c.some_digit); below = omega (arith, c.below, power k w l) })
    go false true e f = let r = whole_room w n f in absurd (omega (arith, leb-false k w e, c.fewest w r.column r.below))

-- powers of 10, from p on; each at its place
abbrev pub tens : ℕ → ℕ → List ℕ
tens zero p = []
tens (suc k) p = p ∷ tens k (p * 10)

pub tens_are : (k p w : ℕ) → w < k → get_or (tens k p) w 0 ≡ p * 10 ^ w
tens_are zero p w h = absurd (omega arith)
tens_are (suc k) p zero h = omega arith
tens_are (suc k) p (suc w) h = tens_are k (p * 10) w (omega arith) ∙ (mul_assoc p 10 (10 ^ w) ∙ ap (λ (q : ℕ). p * q) (mul_comm 10 (10 ^ w) ∙ sym (pow-suc 10 w)))

-- so many columns hold it
pub count_holds : (n k w : ℕ) → HasDigits n k → 1 ≤ w → leb k w ≡ ltb n (10 ^ w)
unfolding whole_fits
count_holds n k w c h = sym (count_fits_lem n k w c) ∙ rw (le-leb 1 w h)

-- as many digits it has; w + 1 is any number of digits that hold it
pub digits_count : (n k w : ℕ) → HasDigits n k → n < 10 ^ suc w → length (digits (suc w) n) ≡ k
digits_count n k w c h =
    let s = digits (suc w) n in
    let b : n < 10 ^ length s = subst (λ (m : ℕ). m < 10 ^ length s) (digits_value (suc w) n h) (digits_below s (digits_digits (suc w) n)) in
    omega (arith, digits_length (suc w) n k c.below c.some_digit, c.fewest (length s) (digits_some (suc w) n (omega arith)) b)

-- in as many columns there is no blank before it
pub count_whole : (n k w : ℕ) → HasDigits n k → n < 10 ^ suc w → whole k n ≡ digits (suc w) n
unfolding whole right
count_whole n k w c h =
    let j : ℕ = k - 1 in
    let e : suc j ≡ k = omega (arith, c.some_digit) in
    let b : n < 10 ^ (suc j - 0) = rw (sub-zero (suc j), e) c.below in
    let p : right (suc j) (digits (suc j) n) ≡ right (suc j) (digits (suc w) n) = sym (lead_right false j j n (rw e c.below) (omega arith) b) ∙ lead_right false w j n h (omega arith) b in
    let q : right k (digits k n) ≡ right k (digits (suc w) n) = subst (λ (i : ℕ). right i (digits i n) ≡ right i (digits (suc w) n)) e p in
    let z : k - length (digits (suc w) n) ≡ 0 = omega (arith, digits_count n k w c h) in
    q ∙ ap (λ (i : ℕ). blanks i ++ digits (suc w) n) z
