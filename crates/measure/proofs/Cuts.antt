-- What is left of columns once trailing blanks are cut. Assumes nothing.
use Prim.Native.Nat.{ℕ, suc, ◌-◌, ◌/◌, ◌^◌}
use mathlib.Core.Path.{◌≡◌, refl, sym, ap, ◌∙◌}
use mathlib.Core.Bool.{Bool, true, false, cond, ◌&&◌, and-true, and-false}
use mathlib.Core.List.{List, [], ◌∷◌, ◌++◌, append_assoc}
use native.Mathlib.Omega.{arith}
use lib.Dec.{eqb, ltb}
use lib.IntN.{ℤ, pos, negsuc}
use lib.ListN.{length}
use borrow.Author.Tests.{ne_eqb}
use Rattle.lists.specs.Blank.{blanks, is_blank}
use Rattle.lists.proofs.Every.{every_append}
use Rattle.line.specs.Text.{cut}
use Rattle.write_field.specs.Normal.{right, digit, fixed, digits, whole, plain, decimal}

is_blank_on : (xs ys : List ℕ) → is_blank (xs ++ ys) ≡ (is_blank xs && is_blank ys)
is_blank_on xs ys = every_append (λ b. eqb b 32) xs ys

-- behind some columns: what is not blank stays, what is blank goes
pub cut_on : (xs ys : List ℕ) → is_blank ys ≡ false → cut (xs ++ ys) ≡ xs ++ cut ys
unfolding cut
cut_on [] ys h = refl
cut_on (x ∷ xs) ys h =
    let e : is_blank (x ∷ xs ++ ys) ≡ false = is_blank_on (x ∷ xs) ys ∙ (ap (λ (b : Bool). is_blank (x ∷ xs) && b) h ∙ and-false (is_blank (x ∷ xs))) in
    rw e (ap (λ (r : List ℕ). x ∷ r) (cut_on xs ys h))

pub cut_off : (xs ys : List ℕ) → is_blank ys ≡ true → cut (xs ++ ys) ≡ cut xs
unfolding cut
cut_off [] [] h = refl
cut_off [] (y ∷ ys) h = rw h
cut_off (x ∷ xs) ys h =
    let e : is_blank (x ∷ xs ++ ys) ≡ is_blank (x ∷ xs) = is_blank_on (x ∷ xs) ys ∙ (ap (λ (b : Bool). is_blank (x ∷ xs) && b) h ∙ and-true (is_blank (x ∷ xs))) in
    ap (λ (b : Bool). cond b [] (x ∷ cut (xs ++ ys))) e ∙ ap (λ (r : List ℕ). cond (is_blank (x ∷ xs)) [] (x ∷ r)) (cut_off xs ys h)

-- columns whose last is not blank
pub record Ends (s : List ℕ) : Type 0 where
  pub before : List ℕ
  pub last : ℕ
  pub are : s ≡ before ++ (last ∷ [])
  pub filled : last ≡ 32 → ⊥

pub ends_not_blank : (s : List ℕ) → Ends s → is_blank s ≡ false
ends_not_blank s e =
    let z : is_blank (e.last ∷ []) ≡ false = rw (ne_eqb e.last 32 e.filled) refl in
    ap is_blank e.are ∙ (is_blank_on e.before (e.last ∷ []) ∙ (ap (λ (b : Bool). is_blank e.before && b) z ∙ and-false (is_blank e.before)))

pub cut_ends : (s : List ℕ) → Ends s → cut s ≡ s
unfolding cut
cut_ends s e =
    let z : is_blank (e.last ∷ []) ≡ false = rw (ne_eqb e.last 32 e.filled) refl in
    ap cut e.are ∙ (cut_on e.before (e.last ∷ []) z ∙ (rw z (sym e.are)))

pub ends_on : (xs ys : List ℕ) → Ends ys → Ends (xs ++ ys)
ends_on xs ys e =
    record { before = xs ++ e.before; last = e.last; are = ap (λ (r : List ℕ). xs ++ r) e.are ∙ sym (append_assoc xs e.before (e.last ∷ [])); filled = e.filled }

-- numbers end with a digit
pub ends_digit : (xs : List ℕ) (n : ℕ) → Ends (xs ++ (digit n ∷ []))
ends_digit xs n = record { before = xs; last = digit n; are = refl; filled = λ e. omega (arith, e) }

pub ends_fixed : (w n : ℕ) → Ends (fixed (suc w) n)
unfolding fixed
ends_fixed w n = ends_digit (fixed w (n / 10)) n

ends_digits : (w n : ℕ) → Ends (digits (suc w) n)
unfolding digits
ends_digits w n = at (ltb n 10)
  where
    at : (b : Bool) → Ends (cond b (digit n ∷ []) (digits w (n / 10) ++ (digit n ∷ [])))
    at true = ends_digit [] n
    at false = ends_digit (digits w (n / 10)) n

ends_right : (w : ℕ) (s : List ℕ) → Ends s → Ends (right w s)
unfolding right
ends_right w s e = ends_on (blanks (w - length s)) s e

pub ends_whole : (w n : ℕ) → Ends (whole (suc w) n)
unfolding whole
ends_whole w n = ends_right (suc w) (digits (suc w) n) (ends_digits w n)

ends_plain : (w d n : ℕ) → Ends (plain w (suc d) n)
unfolding plain
ends_plain w d n = ends_on (digits w (n / 10 ^ suc d)) (46 ∷ fixed (suc d) n) (ends_on (46 ∷ []) (fixed (suc d) n) (ends_fixed d n))

pub ends_decimal : (w d : ℕ) (z : ℤ) → Ends (decimal w (suc d) z)
unfolding decimal
ends_decimal w d (pos n) = ends_right w (plain w (suc d) n) (ends_plain w d n)
ends_decimal w d (negsuc n) = ends_right w (45 ∷ plain w (suc d) (suc n)) (ends_on (45 ∷ []) (plain w (suc d) (suc n)) (ends_plain w d (suc n)))
