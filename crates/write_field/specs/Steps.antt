-- What the inner functions of writing a field answer; no promise of theirs leaves this crate.
use Rattle.std.specs.Prelude.{ℕ, zero, suc, ◌+◌, ◌-◌, ◌/◌, ◌^◌, ◌≤◌, ◌<◌, Bool, true, false, cond, List, [], ◌∷◌, ◌++◌, eqb, ℤ, pos, negsuc, length}
use Rattle.lists.specs.Blank.{blanks}
use Rattle.field.specs.Field.{sign}
use Rattle.write_field.specs.Normal.{digit}

-- the end of k columns in which q stands under a sign, with blanks for leading zeros; 0 is the sign alone
unfoldable pub lead : Bool → ℕ → ℕ → List ℕ
lead m zero q = []
lead m (suc k) q = cond (eqb q 0) (cond m (blanks k ++ (45 ∷ [])) (blanks (suc k))) (lead m k (q / 10) ++ (digit q ∷ []))

-- n under a sign has room in w columns, with d decimals
pub record HasRoom (m : Bool) (n d w : ℕ) : Type 0 where
  pub decimals : length (sign m) + d + 2 ≤ w
  pub digits : n < 10 ^ (w - (length (sign m) + 1))

-- below zero; negsuc n is -(n + 1)
abbrev pub is_minus : ℤ → Bool
is_minus (pos n) = false
is_minus (negsuc n) = true
