-- A turn of the loops that write digits from the last one on. Assumes nothing.
use Prim.Native.Nat.{ℕ, zero, suc, ◌-◌, ◌/◌, ◌^◌, ◌<◌}
use mathlib.Core.Path.{◌≡◌, refl, ap, ◌∙◌}
use mathlib.Core.Bool.{Bool, true, false, cond}
use mathlib.Core.List.{List, [], ◌∷◌, ◌++◌}
use native.Mathlib.Omega.{arith}
use borrow.Author.Tests.{ne_eqb}
use lib.ListN.{set, length-replicate}
use lib.Seq.{sets}
use Rattle.lists.specs.Blank.{blanks}
use Rattle.lists.proofs.Stores.{sets_snoc}
use Rattle.write_field.specs.Normal.{digit, fixed}
use Rattle.write_field.specs.Steps.{lead}
use Rattle.write_field.proofs.Lead.{lead_length, snoc_blanks}
use Rattle.write_field.proofs.Written.{fixed_length, div_more}

-- i columns are left, and i - 1 after the turn
step : (P : ℕ → ℕ → Type 0) → ((i : ℕ) → P i (suc i)) → (i : ℕ) → 0 < i → P (i - 1) i
step P f zero h = absurd (omega arith)
step P f (suc i) h = let e : suc i - 1 ≡ i = omega arith in rw e (f i)

pub fixed_turn : (out : List ℕ) (i n : ℕ) → 0 < i → sets (set out (i - 1) (digit n)) 0 (fixed (i - 1) (n / 10)) ≡ sets out 0 (fixed i n)
unfolding fixed
fixed_turn out i n h = step (λ j i. sets (set out j (digit n)) 0 (fixed j (n / 10)) ≡ sets out 0 (fixed i n)) at i h
  where
    at : (i : ℕ) → sets (set out i (digit n)) 0 (fixed i (n / 10)) ≡ sets out 0 (fixed (suc i) n)
    at i = sets_snoc out (fixed i (n / 10)) i (digit n) (fixed_length i (n / 10))

pub div_turn : (i n : ℕ) → 0 < i → n / 10 / 10 ^ (i - 1) ≡ n / 10 ^ i
div_turn i n h = step (λ j i. n / 10 / 10 ^ j ≡ n / 10 ^ i) (div_more n) i h

-- a digit of the number
pub lead_turn : (out : List ℕ) (m : Bool) (i q : ℕ) → 0 < i → (q ≡ 0 → ⊥) → sets (set out (i - 1) (digit q)) 0 (lead m (i - 1) (q / 10)) ≡ sets out 0 (lead m i q)
unfolding lead
lead_turn out m i q h n = step (λ j i. sets (set out j (digit q)) 0 (lead m j (q / 10)) ≡ sets out 0 (lead m i q)) at i h
  where
    at : (i : ℕ) → sets (set out i (digit q)) 0 (lead m i (q / 10)) ≡ sets out 0 (lead m (suc i) q)
    at i = rw (ne_eqb q 0 n) (sets_snoc out (lead m i (q / 10)) i (digit q) (lead_length m i (q / 10)))

blank_lead : (k : ℕ) → lead false k 0 ≡ blanks k
unfolding lead
blank_lead zero = refl
blank_lead (suc k) = refl

-- the sign, or a blank
pub fill_turn : (out : List ℕ) (m : Bool) (i : ℕ) → 0 < i → sets (set out (i - 1) (cond m 45 32)) 0 (lead false (i - 1) 0) ≡ sets out 0 (lead m i 0)
unfolding lead
fill_turn out m i h = step (λ j i. sets (set out j (cond m 45 32)) 0 (lead false j 0) ≡ sets out 0 (lead m i 0)) at i h
  where
    at : (i : ℕ) → sets (set out i (cond m 45 32)) 0 (lead false i 0) ≡ sets out 0 (lead m (suc i) 0)
    at i = rw (blank_lead i) (sets_snoc out (blanks i) i (cond m 45 32) (length-replicate i 32) ∙ ap (sets out 0) (go m))
      where
        go : (m : Bool) → blanks i ++ (cond m 45 32 ∷ []) ≡ cond m (blanks i ++ (45 ∷ [])) (blanks (suc i))
        go true = refl
        go false = snoc_blanks i
