-- Tests that every byte of a list passes. Assumes nothing.
use Prim.Native.Nat.{ℕ, zero, suc, ◌+◌, ◌≤◌, ◌<◌}
use mathlib.Core.Path.{◌≡◌, refl, ap, sym, ◌∙◌}
use mathlib.Core.Bool.{Bool, true, false, not, ◌&&◌, ◌||◌, and_assoc, and-true}
use mathlib.Core.List.{List, [], ◌∷◌, ◌++◌}
use native.Mathlib.Omega.{arith}
use lib.ListN.{length, get_or, take, drop, replicate, drop_of_length-le}
use Rattle.std.specs.List.{list_all}
use Rattle.lists.specs.Lists.{every}
use Rattle.lists.proofs.Bools.{both, all_of}
use Rattle.lists.proofs.Parts.{next}

module _ (p : ℕ → Bool) where
  pub every_append : (a b : List ℕ) → every p (a ++ b) ≡ (every p a && every p b)
  every_append [] b = refl
  every_append (x ∷ a) b = ap (λ (t : Bool). p x && t) (every_append a b) ∙ sym (and_assoc (p x) (every p a) (every p b))

  -- both lists pass, and so does one behind the other
  pub every_both : (a b : List ℕ) → every p (a ++ b) ≡ true → (every p a ≡ true) × (every p b ≡ true)
  every_both a b h = both (every p a) (every p b) (sym (every_append a b) ∙ h)

  pub every_on : (a b : List ℕ) → every p a ≡ true → every p b ≡ true → every p (a ++ b) ≡ true
  every_on a b g h = every_append a b ∙ all_of (every p a) (every p b) g h

  pub every_cons : (x : ℕ) (s : List ℕ) → p x ≡ true → every p s ≡ true → every p (x ∷ s) ≡ true
  every_cons x s g h = all_of (p x) (every p s) g h

  pub every_take : (n : ℕ) (s : List ℕ) → every p s ≡ true → every p (take n s) ≡ true
  every_take zero s h = refl
  every_take (suc n) [] h = refl
  every_take (suc n) (x ∷ s) h = let q = both (p x) (every p s) h in every_cons x (take n s) q.0 (every_take n s q.1)

  pub every_drop : (n : ℕ) (s : List ℕ) → every p s ≡ true → every p (drop n s) ≡ true
  every_drop zero s h = h
  every_drop (suc n) [] h = refl
  every_drop (suc n) (x ∷ s) h = every_drop n s (both (p x) (every p s) h).1

  pub every_replicate : (n x : ℕ) → p x ≡ true → every p (replicate n x) ≡ true
  every_replicate zero x h = refl
  every_replicate (suc n) x h = every_cons x (replicate n x) h (every_replicate n x h)

  -- what every byte passes, the one at a place passes
  pub every_at : (s : List ℕ) (i d : ℕ) → every p s ≡ true → i < length s → p (get_or s i d) ≡ true
  every_at [] i d h k = absurd (omega arith)
  every_at (x ∷ s) zero d h k = (both (p x) (every p s) h).0
  every_at (x ∷ s) (suc i) d h k = every_at s i d (both (p x) (every p s) h).1 (omega arith)

  -- what passes one test passes a weaker one
  pub every_weaker : (q : ℕ → Bool) → ((x : ℕ) → p x ≡ true → q x ≡ true) → (s : List ℕ) → every p s ≡ true → every q s ≡ true
  every_weaker q f [] h = refl
  every_weaker q f (x ∷ s) h = let g = both (p x) (every p s) h in all_of (q x) (every q s) (f x g.0) (every_weaker q f s g.1)

  -- a loop that tests every byte and has no exit: whether one failed, before place i
  module _ (s : List ℕ) (i : ℕ) (failed : Bool) where
    pub every_seen : (fails : Bool) → i < length s → not fails ≡ p (get_or s i 0)
        → (not (failed || fails) && every p (drop (i + 1) s)) ≡ (not failed && every p (drop i s))
    every_seen fails h e = rw (next s i h, ← e) (turn failed fails (every p (drop (i + 1) s)))
      where
        turn : (a b c : Bool) → (not (a || b) && c) ≡ (not a && (not b && c))
        turn true b c = refl
        turn false b c = refl

    pub every_told : length s ≤ i → (not failed && every p (drop i s)) ≡ every p s → not failed ≡ every p s
    every_told h e = sym (and-true (not failed)) ∙ (ap (λ (x : List ℕ). not failed && every p x) (sym (drop_of_length-le s h)) ∙ e)

  -- the library's test of all elements is this one
  pub every_all : (s : List ℕ) → list_all p s ≡ every p s
  every_all [] = refl
  every_all (x ∷ s) = ap (λ (t : Bool). p x && t) (every_all s)
