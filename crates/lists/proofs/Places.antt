-- The place of an element in a list. Assumes nothing.
use Prim.Native.Nat.{suc, ◌<◌}
use mathlib.Core.Path.{◌≡◌, refl, sym}
use mathlib.Core.Bool.{Bool, true, false, cond, ◌||◌}
use mathlib.Core.List.{List, [], ◌∷◌}
use native.Mathlib.Omega.{arith}
use lib.ListN.{length, get_or}
use Rattle.lists.specs.Lists.{place, is_in}
use Rattle.lists.proofs.Bools.{never}

module _ {A : Type 0} (eq : A → A → Bool) (sound : (x y : A) → eq x y ≡ true → x ≡ y) (d x : A) where
  pub place_at : (ys : List A) → place eq x ys < length ys → get_or ys (place eq x ys) d ≡ x
  place_at [] h = absurd (omega arith)
  place_at (y ∷ ys) h = at (eq x y) refl h (place_at ys)
    where
      at : (b : Bool) → eq x y ≡ b → cond b 0 (suc (place eq x ys)) < suc (length ys) → (place eq x ys < length ys → get_or ys (place eq x ys) d ≡ x)
          → get_or (y ∷ ys) (cond b 0 (suc (place eq x ys))) d ≡ x
      at true e k ih = sym (sound x y e)
      at false e k ih = ih (omega arith)

  pub in_place : (ys : List A) → is_in eq x ys ≡ true → place eq x ys < length ys
  in_place [] h = absurd (never h)
  in_place (y ∷ ys) h = at (eq x y) h (in_place ys)
    where
      at : (b : Bool) → (b || is_in eq x ys) ≡ true → (is_in eq x ys ≡ true → place eq x ys < length ys) → cond b 0 (suc (place eq x ys)) < suc (length ys)
      at true k ih = omega arith
      at false k ih = let i : place eq x ys < length ys = ih k in omega arith
