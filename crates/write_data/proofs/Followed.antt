-- A line is put, and then a text right behind it. Assumes nothing.
use Prim.Native.Nat.{ℕ, ◌+◌}
use mathlib.Core.Path.{◌≡◌, ap, ◌∙◌}
use mathlib.Core.List.{List, [], ◌∷◌, ◌++◌, append_assoc}
use native.Mathlib.Omega.{arith}
use lib.ListN.{length, length-append}
use lib.Seq.{sets}
use Rattle.lists.proofs.Stores.{sets_append}

module _ (l t : List ℕ) where
  pub follow_length : length (l ++ (10 ∷ t)) ≡ length l + 1 + length t
  follow_length = omega (arith, length-append l (10 ∷ t))

  pub followed : (o x y : List ℕ) (at to : ℕ) → x ≡ sets o at (l ++ (10 ∷ [])) → to ≡ at + (length l + 1) → y ≡ sets x to t → y ≡ sets o at (l ++ (10 ∷ t))
  followed o x y at to p q r =
      let n : to ≡ at + length (l ++ (10 ∷ [])) = omega (arith, q, length-append l (10 ∷ [])) in
      r ∙ ((λ k. sets (p k) (n k) t) ∙ (sets_append o at (l ++ (10 ∷ [])) t ∙ ap (sets o at) (append_assoc l (10 ∷ []) t)))
