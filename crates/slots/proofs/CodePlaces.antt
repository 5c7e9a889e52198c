-- The place of a code in a list, as it is found. Assumes nothing.
use Prim.Native.Nat.{ℕ, suc, ◌≤◌}
use mathlib.Core.Path.{◌≡◌, refl, sym, ap}
use mathlib.Core.Bool.{Bool, true, false, cond}
use mathlib.Core.List.{List, [], ◌∷◌}
use Rattle.std.specs.Prelude.{None, Some, position}
use Rattle.std.specs.Option.{unwrap_or}
use Rattle.std.specs.List.{position_or_len}
use Rattle.std.proofs.lemmas.List.Recursion.{is_position_or_len}
use native.Mathlib.Omega.{arith}
use lib.Dec.{eqb, ltb}
use lib.ListN.{length}
use borrow.Author.Tests.{ltb-false}
use Rattle.lists.specs.Lists.{place}

place_within : (x : ℕ) (xs : List ℕ) → place eqb x xs ≤ length xs
place_within x [] = omega arith
place_within x (y ∷ ys) = at (eqb x y) (place_within x ys)
  where
    at : (b : Bool) → place eqb x ys ≤ length ys → cond b 0 (suc (place eqb x ys)) ≤ suc (length ys)
    at true h = omega arith
    at false h = omega arith

pub place_or : (x : ℕ) (xs : List ℕ) → unwrap_or (position (eqb x) xs) (length xs) ≡ place eqb x xs
place_or x xs =
    at (position_or_len (eqb x) xs) (length xs) (place eqb x xs) (is_position_or_len (place eqb x) (eqb x) refl (λ y ys. ap (cond (eqb x y) 0) (omega arith)) xs)
    (place_within x xs) (ltb (position_or_len (eqb x) xs) (length xs)) refl
  where
    at : (p n m : ℕ) → m ≡ p → m ≤ n → (b : Bool) → ltb p n ≡ b → unwrap_or (cond b (Some p) None) n ≡ m
    at p n m e h true k = sym e
    at p n m e h false k = let l : n ≤ p = ltb-false p n k in omega arith
