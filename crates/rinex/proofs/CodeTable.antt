-- The table of codes: one test over all entries, and what it says of each. Assumes nothing.
use Prim.Native.Nat.{ℕ, zero, suc, ◌≤◌, ◌<◌}
use mathlib.Core.Path.{◌≡◌, refl, ap, ◌∙◌}
use mathlib.Core.Bool.{Bool, true, false, ◌&&◌}
use mathlib.Core.List.{List, [], ◌∷◌, ◌++◌, map}
use Rattle.std.specs.Prelude.{Option, None, Some}
use native.Mathlib.Omega.{arith}
use lib.Dec.{eqb, leb, ltb}
use lib.ListN.{length, get_or}
use borrow.Author.Tests.{leb-true, ltb-true, ltb-false}
use Rattle.lists.specs.Lists.{joined, same, is_in}
use Rattle.lists.proofs.Bools.{never, both, all_of, Either, left, right, or_either}
use Rattle.lists.proofs.Lists.{same_true}
use Rattle.rinex.specs.CodeTable.{code_table, tabled}
use Rattle.rinex.specs.Codes.{is_code, type_and_band, is_taken}
use Rattle.rinex.specs.Data.{later, ascend}
use Rattle.rinex.specs.CodeNumbers.{numbers_from, code_numbers}
use Rattle.rinex.specs.Theorems.{CodesTabled}

-- THE TEST: ordered, so that none stands twice; of the right form, and none with a blank attribute
abbrev formed : List ℕ → Bool
formed c = is_code c && leb 65 (get_or c 2 0)

abbrev all_formed : List (List ℕ) → Bool
all_formed [] = true
all_formed (c ∷ cs) = formed c && all_formed cs

table_fits : (ascend None code_numbers && all_formed (joined code_table)) ≡ true
unfolding code_numbers numbers_from code_table is_code
table_fits = refl

table_sizes : map (λ (cs : List (List ℕ)). length cs) code_table ≡ 86 ∷ 28 ∷ 76 ∷ 56 ∷ 36 ∷ 32 ∷ 16 ∷ []
unfolding code_table
table_sizes = refl

-- WHAT IT SAYS OF EACH ENTRY
-- of the codes of each system
formed_parts : (cs ds : List (List ℕ)) → all_formed (cs ++ ds) ≡ true → (all_formed cs ≡ true) × (all_formed ds ≡ true)
formed_parts [] ds h = (refl, h)
formed_parts (c ∷ cs) ds h = let p = both (formed c) _ h in let q = formed_parts cs ds p.1 in (all_of (formed c) _ p.0 q.0, q.1)

formed_in_list : (css : List (List (List ℕ))) (s : ℕ) → all_formed (joined css) ≡ true → all_formed (get_or css s []) ≡ true
formed_in_list [] s h = refl
formed_in_list (cs ∷ css) zero h = (formed_parts cs (joined css) h).0
formed_in_list (cs ∷ css) (suc s) h = formed_in_list css s (formed_parts cs (joined css) h).1

tabled_formed : (s : ℕ) → all_formed (tabled s) ≡ true
unfolding tabled
tabled_formed s = formed_in_list code_table s (both (ascend None code_numbers) _ table_fits).1

-- numbers that ascend: each is below those behind it
ascend_from : (k : ℕ) (ks : List ℕ) (j : ℕ) → ascend (Some k) ks ≡ true → j < length ks → k < get_or ks j 0
ascend_from k [] j h b = absurd (omega arith)
ascend_from k (m ∷ ks) zero h b = ltb-true k m (both (ltb k m) _ h).0
ascend_from k (m ∷ ks) (suc j) h b =
    let p = both (ltb k m) _ h in
    let q : k < m = ltb-true k m p.0 in
    let r : m < get_or ks j 0 = ascend_from m ks j p.1 (omega arith) in
    omega arith

ascend_at : (last : Option ℕ) (ks : List ℕ) (i j : ℕ) → ascend last ks ≡ true → i < j → j < length ks → get_or ks i 0 < get_or ks j 0
ascend_at last [] i j h a b = absurd (omega arith)
ascend_at last (k ∷ ks) i zero h a b = absurd (omega arith)
ascend_at last (k ∷ ks) zero (suc j) h a b = ascend_from k ks j (both (later last k) _ h).1 (omega arith)
ascend_at last (k ∷ ks) (suc i) (suc j) h a b = ascend_at (Some k) ks i j (both (later last k) _ h).1 (omega arith) (omega arith)

formed_at : (cs : List (List ℕ)) (i : ℕ) → all_formed cs ≡ true → i < length cs → formed (get_or cs i []) ≡ true
formed_at [] i h b = absurd (omega arith)
formed_at (c ∷ cs) zero h b = (both (formed c) _ h).0
formed_at (c ∷ cs) (suc i) h b = formed_at cs i (both (formed c) _ h).1 (omega arith)

ordered : (i j : ℕ) → i < j → j < length code_numbers → get_or code_numbers i 0 < get_or code_numbers j 0
ordered i j a b = ascend_at None code_numbers i j (both (ascend None code_numbers) _ table_fits).0 a b

different : (i j : ℕ) → i < length code_numbers → j < length code_numbers → get_or code_numbers i 0 ≡ get_or code_numbers j 0 → i ≡ j
different i j a b e = at (ltb i j) refl (ltb j i) refl
  where
    at : (p : Bool) → ltb i j ≡ p → (q : Bool) → ltb j i ≡ q → i ≡ j
    at true p q r = absurd (omega (arith, e, ordered i j (ltb-true i j p) b))
    at false p true r = absurd (omega (arith, e, ordered j i (ltb-true j i r) a))
    at false p false r = omega (arith, ltb-false i j p, ltb-false j i r)

right_form : (s i : ℕ) → i < length (tabled s) → (is_code (get_or (tabled s) i []) ≡ true) × (get_or (get_or (tabled s) i []) 2 0 ≡ 32 → ⊥)
right_form s i b =
    let c = get_or (tabled s) i [] in
    let p = both (is_code c) _ (formed_at (tabled s) i (tabled_formed s) b) in
    let q : 65 ≤ get_or c 2 0 = leb-true 65 (get_or c 2 0) p.1 in
    (p.0, λ e. omega (arith, q, e))

pub codes_tabled : CodesTabled
codes_tabled = record { ordered = ordered; different = different; formed = right_form; sizes = table_sizes }

-- EVERY CODE THAT IS TAKEN HAS THE FORM
formed_in : (c : List ℕ) (cs : List (List ℕ)) → all_formed cs ≡ true → is_in same c cs ≡ true → formed c ≡ true
formed_in c [] h k = absurd (never k)
formed_in c (d ∷ cs) h k =
    let p = both (formed d) (all_formed cs) h in
    at p.0 (formed_in c cs p.1) (or_either (same c d) (is_in same c cs) k)
  where
    at : formed d ≡ true → (is_in same c cs ≡ true → formed c ≡ true) → Either (same c d ≡ true) (is_in same c cs ≡ true) → formed c ≡ true
    at p ih (left e) = ap formed (same_true c d e) ∙ p
    at p ih (right e) = ih e

-- a code that stands in the table: it has the form, and its attribute is a letter
pub tabled_code : (s : ℕ) (c : List ℕ) → is_in same c (tabled s) ≡ true → (is_code c ≡ true) × (65 ≤ get_or c 2 0)
tabled_code s c h =
    let p = both (is_code c) _ (formed_in c (tabled s) (tabled_formed s) h) in
    (p.0, leb-true 65 (get_or c 2 0) p.1)

pub taken_code : (s : ℕ) (c : List ℕ) → is_taken s c ≡ true → is_code c ≡ true
unfolding is_taken
taken_code s c h = at (or_either (is_in same c (tabled s)) _ h)
  where
    at : Either (is_in same c (tabled s) ≡ true) ((is_code c && (eqb (get_or c 2 0) 32 && is_in same (type_and_band c) (map type_and_band (tabled s)))) ≡ true) → is_code c ≡ true
    at (left e) = (tabled_code s c e).0
    at (right e) = (both (is_code c) _ e).0
