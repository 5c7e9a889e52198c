-- The time system of TIME OF FIRST OBS, by its place. Assumes nothing.
use Prim.Native.Nat.{ℕ, suc, ◌<◌, ◌≤◌}
use mathlib.Core.Path.{◌≡◌, refl, sym, ◌∙◌}
use mathlib.Core.Bool.{Bool, true, false, cond, ◌||◌}
use mathlib.Core.List.{List, [], ◌∷◌}
use native.Mathlib.Omega.{arith}
use lib.Dec.{ltb}
use lib.ListN.{length}
use borrow.Author.Tests.{ltb-true, ltb-false, lt-ltb, le-ltb}
use Rattle.lists.specs.Lists.{place, is_in}

ltb_suc : (a b : ℕ) → ltb (suc a) (suc b) ≡ ltb a b
ltb_suc a b = at (ltb a b) refl
  where
    at : (t : Bool) → ltb a b ≡ t → ltb (suc a) (suc b) ≡ t
    at true e = let h : a < b = ltb-true a b e in lt-ltb (suc a) (suc b) (omega arith)
    at false e = let h : b ≤ a = ltb-false a b e in le-ltb (suc a) (suc b) (omega arith)

-- one of them, where its place is below their number
pub in_place_is : {A : Type 0} (eq : A → A → Bool) (x : A) (ys : List A) → is_in eq x ys ≡ ltb (place eq x ys) (length ys)
in_place_is eq x [] = refl
in_place_is eq x (y ∷ ys) = at (eq x y) (in_place_is eq x ys)
  where
    at : (b : Bool) → is_in eq x ys ≡ ltb (place eq x ys) (length ys) → (b || is_in eq x ys) ≡ ltb (cond b 0 (suc (place eq x ys))) (suc (length ys))
    at true ih = sym (lt-ltb 0 (suc (length ys)) (omega arith))
    at false ih = ih ∙ sym (ltb_suc (place eq x ys) (length ys))
