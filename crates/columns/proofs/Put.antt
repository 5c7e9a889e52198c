-- Numbers and blanks put into lent columns. Assumes nothing.
use Prim.Native.Nat.{ℕ, ◌+◌, ◌-◌, ◌≤◌}
use mathlib.Core.Path.{◌≡◌, sym, ap, ◌∙◌, subst}
use mathlib.Core.Bool.{Bool, true, cond}
use mathlib.Core.List.{List, ◌++◌}
use native.Mathlib.Omega.{arith}
use lib.ListN.{length, take, drop, length-take, length-drop}
use lib.IntN.{ℤ}
use lib.Seq.{sets}
use Rattle.lists.proofs.Stores.{part_back}
use Rattle.write_field.specs.Normal.{decimal, decimal_fits}
use Rattle.write_field.proofs.Written.{decimal_length}

-- a number's w columns from a on, lent to its writer; f says whether w columns hold it, g is its spelling
module _ (l ys : List ℕ) (a w : ℕ) (f : ℕ → Bool) (g : ℕ → List ℕ) where
  abbrev lent : List ℕ
  lent = take (a + w - a) (drop a l)

  pub number_back : a + w ≤ length l → f w ≡ true → length (g w) ≡ w → ys ≡ cond (f (length lent)) (g (length lent)) lent
      → take a l ++ (ys ++ drop (a + w - a) (drop a l)) ≡ sets l a (g w)
  number_back h k n e =
      let d : a + w - a ≡ w = omega arith in
      let p : length lent ≡ w = rw (length-take, length-drop) (omega arith) in
      let q : ys ≡ g w = e ∙ rw (p, k) in
      let r : length ys ≡ a + w - a = ap length q ∙ (n ∙ sym d) in
      part_back l ys a (a + w - a) (omega arith) r ∙ ap (λ (x : List ℕ). sets l a x) q

-- a decimal; y is the number as it was passed
pub decimal_back : (l ys : List ℕ) (a w d : ℕ) (y z : ℤ) → y ≡ z → a + w ≤ length l → decimal_fits w d z ≡ true
    → ys ≡ cond (decimal_fits (length (take (a + w - a) (drop a l))) d y) (decimal (length (take (a + w - a) (drop a l))) d y) (take (a + w - a) (drop a l))
    → take a l ++ (ys ++ drop (a + w - a) (drop a l)) ≡ sets l a (decimal w d z)
decimal_back l ys a w d y z e h k q =
    let k' : decimal_fits w d y ≡ true = subst (λ (x : ℤ). decimal_fits w d x ≡ true) (sym e) k in
    number_back l ys a w (λ n. decimal_fits n d y) (λ n. decimal n d y) h k' (decimal_length w d y k') q
    ∙ ap (λ (x : ℤ). sets l a (decimal w d x)) e
