-- Digits and the number that they spell. Assumes nothing.
use Prim.Native.Nat.{ℕ, suc, ◌+◌, ◌-◌, ◌*◌, ◌^◌, ◌≤◌, ◌<◌}
use mathlib.Core.Path.{◌≡◌, refl, sym, ap, ◌∙◌}
use mathlib.Core.Bool.{Bool, true, false, ◌&&◌, and-false}
use mathlib.Core.List.{List, [], ◌∷◌, ◌++◌}
use Rattle.std.specs.Prelude.{None, Some, Result, Ok, Err, IsErr}
use Rattle.std.specs.Result.{result_ok}
use native.Mathlib.Nat.{mul-le-mul_right, mul_assoc, pow-succ', pow-le-pow_right}
use native.Mathlib.Omega.{arith}
use borrow.Author.Tests.{leb-true, le-leb, ltb-true, ltb-false, lt-ltb, le-ltb}
use lib.Dec.{leb, ltb}
use lib.ListN.{length, drop, get_or}
use Rattle.lists.specs.Maybe.{when, ◌>>=◌}
use Rattle.lists.proofs.Maybe.{when_some}
use Rattle.lists.proofs.Bools.{never, all_of, both, both_not}
use Rattle.lists.proofs.Parts.{next}
use Rattle.lists.proofs.Every.{every_append}
use Rattle.field.specs.Field.{is_digit, are_digits, value_of}
use Rattle.field.specs.Reading.{most}
use Rattle.field.specs.Steps.{number_in}
use Rattle.field.specs.declared.Unfit.{Unfit}
use Rattle.field.proofs.Found.{first}

pub value_append : (m : ℕ) (s t : List ℕ) → value_of m (s ++ t) ≡ value_of (value_of m s) t
value_append m [] t = refl
value_append m (x ∷ s) t = value_append (m * 10 + (x - 48)) s t

value_grows : (m : ℕ) (s : List ℕ) → m ≤ value_of m s
value_grows m [] = omega arith
value_grows m (x ∷ s) = omega (arith, value_grows (m * 10 + (x - 48)) s)

-- the number of digits, where it is held
pub number_held : (m : ℕ) (s : List ℕ) (n : ℕ) → number_in m s ≡ Some n → (are_digits s ≡ true) × (n ≡ value_of m s) × (n < most)
unfolding number_in
number_held m s n e =
    let p = when_some (are_digits s && ltb (value_of m s) most) (value_of m s) n e in
    let q = both (are_digits s) (ltb (value_of m s) most) p.0 in
    (q.0, sym p.1, omega (arith, ltb-true (value_of m s) most q.1, p.1))

pub number_is : (m : ℕ) (s : List ℕ) → are_digits s ≡ true → value_of m s < most → number_in m s ≡ Some (value_of m s)
unfolding number_in
number_is m s e h = rw (e, lt-ltb (value_of m s) most h)

-- the number of digits behind others
pub number_append : (m : ℕ) (s t : List ℕ) → (number_in m s >>= λ v. number_in v t) ≡ number_in m (s ++ t)
unfolding number_in
number_append m s t = rw (every_append is_digit s t, value_append m s t) (go (are_digits s) (ltb (value_of m s) most) refl)
  where
    go : (a b : Bool) → ltb (value_of m s) most ≡ b
        → (when (a && b) (value_of m s) >>= λ v. when (are_digits t && ltb (value_of v t) most) (value_of v t))
        ≡ when ((a && are_digits t) && ltb (value_of (value_of m s) t) most) (value_of (value_of m s) t)
    go true true e = refl
    go true false e =
        let f : ltb (value_of (value_of m s) t) most ≡ false = le-ltb _ _ (omega (arith, ltb-false (value_of m s) most e, value_grows (value_of m s) t)) in
        rw (f, and-false (are_digits t))
    go false b e = refl

-- where a `?` returns, nothing is found
pub none_there : {A : Type 0} (r : Result A Unfit) → IsErr r → None ≡ result_ok r
none_there (Ok x) h = absurd (never h)
none_there (Err u) h = refl

-- a turn of a loop that reads digit after digit
module _ (s : List ℕ) (i : ℕ) (h : i < length s) (v : ℕ) where
  pub number_next : is_digit (get_or s i 0) ≡ true → number_in v (drop i s) ≡ number_in (v * 10 + (get_or s i 0 - 48)) (drop (i + 1) s)
  unfolding number_in
  number_next e = rw (next s i h, e)

  pub number_stop : is_digit (get_or s i 0) ≡ false → number_in v (drop i s) ≡ None
  unfolding number_in
  number_stop e = rw (next s i h, e)

  pub number_full : most ≤ v * 10 → number_in v (drop i s) ≡ None
  unfolding number_in
  number_full k =
      let w : ℕ = v * 10 + (get_or s i 0 - 48) in
      let f : ltb (value_of w (drop (i + 1) s)) most ≡ false = le-ltb _ _ (omega (arith, value_grows w (drop (i + 1) s))) in
      rw (next s i h, f, and-false (is_digit (get_or s i 0) && are_digits (drop (i + 1) s)))

-- the number of some digits is below the power of their number
value_below : (m : ℕ) (s : List ℕ) → are_digits s ≡ true → value_of m s < (m + 1) * 10 ^ length s
value_below m [] h = omega arith
value_below m (x ∷ s) h =
    let f = first x s h in
    let p : x ≤ 57 = f.high in
    let ih : value_of (m * 10 + (x - 48)) s < (m * 10 + (x - 48) + 1) * 10 ^ length s = value_below (m * 10 + (x - 48)) s f.rest in
    let q : m * 10 + (x - 48) + 1 ≤ (m + 1) * 10 = omega arith in
    let r : (m * 10 + (x - 48) + 1) * 10 ^ length s ≤ (m + 1) * 10 * 10 ^ length s = mul-le-mul_right (10 ^ length s) q in
    let e : (m + 1) * 10 ^ suc (length s) ≡ (m + 1) * 10 * 10 ^ length s = ap (λ (k : ℕ). (m + 1) * k) (pow-succ' 10 (length s)) ∙ sym (mul_assoc (m + 1) 10 (10 ^ length s)) in
    omega (arith, ih, r, e)

pub digits_below : (s : List ℕ) → are_digits s ≡ true → value_of 0 s < 10 ^ length s
digits_below s h = omega (arith, value_below 0 s h)

pub power : (i j : ℕ) → i ≤ j → 10 ^ i ≤ 10 ^ j
power i j h = pow-le-pow_right (omega arith) h

-- a byte by its bounds
pub digit_of : (b : ℕ) → 48 ≤ b → b ≤ 57 → is_digit b ≡ true
digit_of b p q = all_of (leb 48 b) (leb b 57) (le-leb 48 b p) (le-leb b 57 q)

pub no_digit : (b : ℕ) → (48 ≤ b → b ≤ 57 → ⊥) → is_digit b ≡ false
no_digit b h = both_not (leb 48 b) (leb b 57) (λ p q. h (leb-true 48 b p) (leb-true b 57 q))
