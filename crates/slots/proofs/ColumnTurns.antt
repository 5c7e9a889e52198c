-- The answers of a column, one row after the other, as a loop stores them. Assumes nothing.
use Prim.Native.Nat.{ℕ, zero, suc, ◌+◌, ◌-◌, ◌/◌, ◌≤◌, ◌<◌}
use mathlib.Core.Path.{◌≡◌, refl, ap}
use mathlib.Core.Bool.{cond}
use mathlib.Core.List.{List, map}
use native.Mathlib.Omega.{arith}
use lib.Dec.{eqb}
use lib.IntN.{ℤ}
use lib.ListN.{length, get_or, set}
use lib.Seq.{sets}
use Rattle.rinex.specs.Answers.{Answer, not_declared}
use Rattle.slot_answers.specs.AtPlace.{slot_answer}
use Rattle.rinex.specs.Fit.{row_codes}
use Rattle.slots.specs.InTables.{column_from}

module _ (lengths satellites : List ℕ) (numbers : List ℤ) (states : List ℕ) (s p code : ℕ) where
  abbrev left : ℕ → ℕ → ℕ → List Answer
  left k j i = column_from lengths satellites numbers states s p code k j i

  pub column_length : (k j i : ℕ) → length (left k j i) ≡ k
  unfolding column_from
  column_length zero j i = refl
  column_length (suc k) j i = ap suc (column_length k (j + 1) (i + row_codes lengths satellites j))

  -- what is stored of each answer, in a list of such entries
  module _ {A : Type 0} (f : Answer → A) (l : List A) (k : ℕ) where
    pub stored_all : sets l 0 (map f (left (k - 0) 0 0)) ≡ sets l 0 (map f (left k 0 0))
    stored_all = let e : k - 0 ≡ k = omega arith in rw e

    -- a turn, at row j, which has n codes and this answer
    pub stored_more : (j i n : ℕ) → j < k → n ≡ row_codes lengths satellites j → (a : Answer) → a ≡ cond (eqb (get_or satellites j 0 / 100) s) (slot_answer numbers states i n p code) not_declared
        → (x : A) → x ≡ f a → sets (set l j x) (j + 1) (map f (left (k - (j + 1)) (j + 1) (i + n))) ≡ sets l j (map f (left (k - j) j i))
    unfolding column_from
    stored_more j i n h e a g x q =
        let m : k - j ≡ suc (k - (j + 1)) = omega arith in
        let z : j + 1 ≡ suc j = omega arith in
        rw (m, q, g, e, z)

    pub stored_over : (j i : ℕ) → k ≤ j → sets l j (map f (left (k - j) j i)) ≡ l
    unfolding column_from
    stored_over j i h = let m : k - j ≡ 0 = omega arith in rw m
