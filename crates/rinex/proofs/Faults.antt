-- The fault of a line is the lowest of the tests that hold of it. Assumes nothing.
use Prim.Native.Nat.{ℕ, zero, suc, ◌+◌, ◌≤◌, ◌<◌}
use mathlib.Core.Path.{◌≡◌, refl, sym, ◌∙◌}
use mathlib.Core.Bool.{Bool, true, false, cond, ◌||◌, true≢false}
use mathlib.Core.List.{List, [], ◌∷◌}
use native.Mathlib.Omega.{arith}
use lib.Dec.{ltb}
use lib.ListN.{get_or}
use borrow.Author.Tests.{ltb-true, ltb-false}
use Rattle.lists.proofs.Bools.{neither}
use Rattle.line.specs.Text.{Raw}
use Rattle.rinex.specs.Tables.{Room}
use Rattle.rinex.specs.Refusals.{State, fault}
use Rattle.rinex.specs.Theorems.{tests, holds}

-- the number of the first test that holds, and 0 where none does
pick : ℕ → List Bool → ℕ
pick k [] = 0
pick k (b ∷ bs) = cond b k (pick (suc k) bs)

fault_pick : (r : Room) (s : State) (w : Raw) → fault r s w ≡ pick 0 (tests r s w)
unfolding fault pick tests
fault_pick r s w = refl

-- one of them holds
unfoldable pub any : List Bool → Bool
any [] = false
any (b ∷ bs) = b || any bs

pick_none : (k : ℕ) (bs : List Bool) → any bs ≡ false → pick k bs ≡ 0
unfolding any pick
pick_none k [] e = refl
pick_none k (b ∷ bs) e = let p = neither b (any bs) e in rw p.0 (pick_none (suc k) bs p.1)

data Picked (k : ℕ) (bs : List Bool) (n : ℕ) : Type 0 where
  no_one : n ≡ 0 → ((m : ℕ) → get_or bs m false ≡ false) → Picked k bs n
  this : (i : ℕ) → n ≡ k + i → get_or bs i false ≡ true → ((m : ℕ) → m < i → get_or bs m false ≡ false) → Picked k bs n

picked : (k : ℕ) (bs : List Bool) → Picked k bs (pick k bs)
unfolding pick
picked k [] = no_one refl (λ m. refl)
picked k (true ∷ bs) = this 0 (omega arith) refl (λ m h. absurd (omega arith))
picked k (false ∷ bs) = at (picked (suc k) bs)
  where
    later : ((m : ℕ) → get_or bs m false ≡ false) → (m : ℕ) → get_or (false ∷ bs) m false ≡ false
    later f zero = refl
    later f (suc m) = f m

    below : (i : ℕ) → ((m : ℕ) → m < i → get_or bs m false ≡ false) → (m : ℕ) → m < suc i → get_or (false ∷ bs) m false ≡ false
    below i f zero h = refl
    below i f (suc m) h = f m (omega arith)

    at : Picked (suc k) bs (pick (suc k) bs) → Picked k (false ∷ bs) (pick (suc k) bs)
    at (no_one e f) = no_one e (later f)
    at (this i e t f) = this (suc i) (omega arith) t (below i f)

module _ (r : Room) (s : State) (w : Raw) where
  fault_picked : Picked 0 (tests r s w) (fault r s w)
  fault_picked = rw (fault_pick r s w) (picked 0 (tests r s w))

  pub none_faulty : any (tests r s w) ≡ false → fault r s w ≡ 0
  none_faulty e = fault_pick r s w ∙ pick_none 0 (tests r s w) e

  zero_not : holds r s w 0 ≡ false
  unfolding tests
  zero_not = refl

  -- no fault, or the lowest
  pub no_fault : fault r s w ≡ 0 → (n : ℕ) → holds r s w n ≡ false
  no_fault e = at (fault r s w) e fault_picked
    where
      at : (f : ℕ) → f ≡ 0 → Picked 0 (tests r s w) f → (n : ℕ) → holds r s w n ≡ false
      at f e (no_one d g) = g
      at f e (this zero d t g) = absurd (true≢false (sym t ∙ zero_not))
      at f e (this (suc i) d t g) = absurd (omega arith)

  pub some_fault : (fault r s w ≡ 0 → ⊥) → (holds r s w (fault r s w) ≡ true) × ((m : ℕ) → m < fault r s w → holds r s w m ≡ false)
  some_fault e = at (fault r s w) e fault_picked
    where
      at : (f : ℕ) → (f ≡ 0 → ⊥) → Picked 0 (tests r s w) f → (holds r s w f ≡ true) × ((m : ℕ) → m < f → holds r s w m ≡ false)
      at f e (no_one d g) = absurd (e d)
      at f e (this i d t g) = let q : f ≡ i = omega arith in (rw q t, λ m h. g m (omega arith))

  pub faultless : ((n : ℕ) → holds r s w n ≡ false) → fault r s w ≡ 0
  faultless f = at fault_picked
    where
      at : Picked 0 (tests r s w) (fault r s w) → fault r s w ≡ 0
      at (no_one d g) = d
      at (this i d t g) = absurd (true≢false (sym t ∙ f i))

  pub faulty : (n : ℕ) → holds r s w n ≡ true → ((m : ℕ) → m < n → holds r s w m ≡ false) → (fault r s w ≡ n) × (1 ≤ n)
  faulty n h l = at fault_picked
    where
      apart : (i : ℕ) → holds r s w i ≡ true → ((m : ℕ) → m < i → holds r s w m ≡ false) → (b c : Bool) → ltb i n ≡ b → ltb n i ≡ c → i ≡ n
      apart i t g true c x y = absurd (true≢false (sym t ∙ l i (ltb-true i n x)))
      apart i t g false true x y = absurd (true≢false (sym h ∙ g n (ltb-true n i y)))
      apart i t g false false x y = let a : n ≤ i = ltb-false i n x in let b : i ≤ n = ltb-false n i y in omega arith

      from_one : (n : ℕ) → holds r s w n ≡ true → 1 ≤ n
      from_one zero x = absurd (true≢false (sym x ∙ zero_not))
      from_one (suc n) x = omega arith

      at : Picked 0 (tests r s w) (fault r s w) → (fault r s w ≡ n) × (1 ≤ n)
      at (no_one d g) = absurd (true≢false (sym h ∙ g n))
      at (this i d t g) = let q : i ≡ n = apart i t g (ltb i n) (ltb n i) refl refl in (omega arith, from_one n h)
