-- The table of codes as numbers, and a place in it. Assumes nothing.
use Prim.Native.Nat.{ℕ, ◌/◌, ◌%◌, ◌≤◌, ◌<◌}
use mathlib.Core.Path.{◌≡◌, refl, ap}
use mathlib.Core.Bool.{Bool, true, false}
use native.Mathlib.Omega.{arith}
use lib.Dec.{eqb, ltb}
use lib.ListN.{length, get_or}
use borrow.Author.Tests.{eqb-true, ltb-true, ltb-false}
use Rattle.std.specs.List.Sorted.{IsNonDecreasingBy, IsPartitionPoint}
use Rattle.std.proofs.lemmas.List.Sorted.{IsNonDecreasingBy-from_default}
use Rattle.lists.specs.Lists.{same, is_in, every, place}
use Rattle.lists.proofs.Places.{place_at, in_place}
use Rattle.lists.proofs.Every.{every_at}
use Rattle.rinex.specs.CodeTable.{code_table, tabled}
use Rattle.rinex.specs.CodeNumbers.{numbers_from, code_numbers}
use Rattle.rinex.specs.Fit.{unpacked}
use Rattle.rinex.proofs.CodeTable.{codes_tabled}
use Rattle.code.specs.Known.{Around}

-- TESTS OVER THE WHOLE TABLE
size : length code_numbers ≡ 330
unfolding code_numbers numbers_from code_table
size = refl

-- an entry is a code that stands under its system
is_entry : ℕ → Bool
is_entry k = is_in same (unpacked (k % 16777216)) (tabled (k / 16777216))

entries : every is_entry code_numbers ≡ true
unfolding code_numbers numbers_from code_table tabled is_entry
entries = refl

-- each is below those behind it
ordered : (i j : ℕ) → i < j → j < 330 → get_or code_numbers i 0 < get_or code_numbers j 0
ordered i j p q = codes_tabled.ordered i j p (omega (arith, size, q))

-- not below those before it
up_to : (i j : ℕ) → i ≤ j → j < 330 → get_or code_numbers i 0 ≤ get_or code_numbers j 0
up_to i j p q = at (ltb i j) refl
  where
    at : (b : Bool) → ltb i j ≡ b → get_or code_numbers i 0 ≤ get_or code_numbers j 0
    at true e = omega (arith, ordered i j (ltb-true i j e) q)
    at false e = let r : i ≡ j = omega (arith, p, ltb-false i j e) in omega (arith, ap (λ (x : ℕ). get_or code_numbers x 0) r)

-- the code of an entry stands under its system
pub entry : (i : ℕ) → i < 330 → is_in same (unpacked (get_or code_numbers i 0 % 16777216)) (tabled (get_or code_numbers i 0 / 16777216)) ≡ true
unfolding is_entry
entry i h = every_at is_entry code_numbers i 0 entries (omega (arith, size))

-- SEARCHING
-- the table does not fall, as the library's search asks
pub rising : IsNonDecreasingBy (λ (x : ℕ). x) code_numbers
rising = IsNonDecreasingBy-from_default (λ (x : ℕ). x) code_numbers 0 (λ i j p q. up_to i j p (omega (arith, size, q)))

-- the place that it answers
pub found : (number at : ℕ) → at ≤ length code_numbers → IsPartitionPoint (λ (x : ℕ). ltb x number ≡ true) (λ (x : ℕ). ltb x number ≡ false) code_numbers at → Around number at at
found number at h p =
    record {
      order = omega arith;
      within = omega (arith, size, h);
      below = λ i l. ltb-true (get_or code_numbers i 0) number (p.0 i 0 (omega arith) l);
      from = λ i l k. ltb-false (get_or code_numbers i 0) number (p.1 i 0 l (omega (arith, size, k)));
    }

-- there stands an entry if any is not below the number, and none of these is smaller
pub least : (number at m : ℕ) → Around number at at → is_in eqb m code_numbers ≡ true → number ≤ m → (at < 330) × (number ≤ get_or code_numbers at 0) × (get_or code_numbers at 0 ≤ m)
least number at m a h k =
    let i : ℕ = place eqb m code_numbers in
    let p : i < length code_numbers = in_place eqb eqb-true 0 m code_numbers h in
    let e : get_or code_numbers i 0 ≡ m = place_at eqb eqb-true 0 m code_numbers p in
    let l : at ≤ i = behind (ltb i at) refl e in
    let w : i < 330 = omega (arith, size, p) in
    let r : at < 330 = omega (arith, l, w) in
    (r, a.from at (omega arith) r, omega (arith, e, up_to at i l w))
  where
    behind : (b : Bool) → ltb (place eqb m code_numbers) at ≡ b → get_or code_numbers (place eqb m code_numbers) 0 ≡ m → at ≤ place eqb m code_numbers
    behind true b e = absurd (omega (arith, k, e, a.below (place eqb m code_numbers) (ltb-true (place eqb m code_numbers) at b)))
    behind false b e = ltb-false (place eqb m code_numbers) at b
