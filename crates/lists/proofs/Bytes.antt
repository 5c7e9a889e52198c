-- A byte among others, as the code tests it: one by one, or between two bounds. Assumes nothing.
use Prim.Native.Nat.{ℕ, zero, suc, ◌+◌, ◌≤◌, ◌<◌}
use mathlib.Core.Path.{◌≡◌, refl, sym, subst⁻¹}
use mathlib.Core.Bool.{Bool, true, false, ◌&&◌, ◌||◌}
use mathlib.Core.List.{List, ◌∷◌}
use native.Mathlib.Omega.{arith}
use lib.Dec.{eqb}
use borrow.Author.Tests.{eqb-false, ne_eqb}
use Rattle.lists.specs.Lists.{is_in}

-- the byte is this one, which is among them
pub among : (x y : ℕ) (ys : List ℕ) → is_in eqb y ys ≡ true → x ≡ y → true ≡ is_in eqb x ys
among x y ys h e = subst⁻¹ (λ (z : ℕ). true ≡ is_in eqb z ys) e (sym h)

-- n bytes one after the other, the first of them a, and the others
abbrev pub run : ℕ → ℕ → List ℕ → List ℕ
run zero a r = r
run (suc n) a r = a ∷ run n (suc a) r

pub within : (n a x : ℕ) (r : List ℕ) → a ≤ x → x < a + n → is_in eqb x (run n a r) ≡ true
within zero a x r h k = absurd (omega arith)
within (suc n) a x r h k = at (eqb x a) refl (within n (suc a) x r)
  where
    at : (b : Bool) → eqb x a ≡ b → (suc a ≤ x → x < suc a + n → is_in eqb x (run n (suc a) r) ≡ true) → (b || is_in eqb x (run n (suc a) r)) ≡ true
    at true e ih = refl
    at false e ih = let ne : x ≡ a → ⊥ = eqb-false x a e in ih (omega arith) (omega arith)

pub outside : (n a x : ℕ) (r : List ℕ) → (a ≤ x → x < a + n → ⊥) → is_in eqb x (run n a r) ≡ is_in eqb x r
outside zero a x r h = refl
outside (suc n) a x r h =
    let ne : eqb x a ≡ false = ne_eqb x a (λ e. h (omega arith) (omega arith)) in
    rw ne (outside n (suc a) x r (λ p q. h (omega arith) (omega arith)))

-- a test of two parts fails with the second
pub fails : (a b : Bool) → b ≡ false → (a && b) ≡ false
fails true b e = e
fails false b e = refl
