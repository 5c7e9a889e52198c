-- The arm `_` of a match on a number: one computed test over the numbers that no other arm names. Assumes nothing.
use Prim.Native.Nat.{ℕ, zero, suc, ◌<◌}
use mathlib.Core.Path.{◌≡◌, refl, sym, ap, ◌∙◌}
use mathlib.Core.Bool.{Bool, true, false, ◌&&◌, ◌||◌}
use mathlib.Core.List.{List, [], ◌∷◌}
use native.Mathlib.Omega.{arith}
use lib.Dec.{eqb}
use borrow.Author.Tests.{eqb-true, eqb-false, ne_eqb}
use Rattle.lists.specs.Lists.{is_in}
use Rattle.lists.proofs.Bools.{both, none_of}

-- the number is none of these, which the arms name, the last of them first
abbrev pub Unnamed : List ℕ → ℕ → Type 0
Unnamed [] n = Unit
Unnamed (a ∷ arms) n = Unnamed arms n × (n ≡ a → ⊥)

unnamed : (arms : List ℕ) (n : ℕ) → Unnamed arms n → is_in eqb n arms ≡ false
unnamed [] n u = refl
unnamed (a ∷ arms) n u = none_of (eqb n a) (is_in eqb n arms) (ne_eqb n a u.1) (unnamed arms n u.0)

-- each number below k is one of these, or passes
abbrev pub others : List ℕ → (ℕ → Bool) → ℕ → Bool
others arms p zero = true
others arms p (suc k) = (is_in eqb k arms || p k) && others arms p k

pub other : (arms : List ℕ) (p : ℕ → Bool) (k : ℕ) → others arms p k ≡ true → (n : ℕ) → n < k → Unnamed arms n → p n ≡ true
other arms p zero h n l u = absurd (omega arith)
other arms p (suc k) h n l u = at (eqb n k) refl (other arms p k t.1 n)
  where
    t : ((is_in eqb k arms || p k) ≡ true) × (others arms p k ≡ true)
    t = both (is_in eqb k arms || p k) (others arms p k) h

    at : (b : Bool) → eqb n k ≡ b → (n < k → Unnamed arms n → p n ≡ true) → p n ≡ true
    at true e ih =
        let m : n ≡ k = eqb-true n k e in
        sym (ap (λ (b : Bool). b || p n) (unnamed arms n u)) ∙ rw m t.0
    at false e ih = let d : n ≡ k → ⊥ = eqb-false n k e in ih (omega arith) u
