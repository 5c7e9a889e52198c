-- Where the slots of rows begin and end, one row after the other. Assumes nothing.
use Prim.Native.Nat.{ℕ, zero, suc, ◌+◌, ◌-◌, ◌≤◌, ◌<◌}
use mathlib.Core.Path.{◌≡◌, sym, ap, ◌∙◌}
use mathlib.Core.List.{List}
use native.Mathlib.Omega.{arith}
use Rattle.rinex.specs.Fit.{row_codes}
use Rattle.slots.specs.InTables.{slots_before}

module _ (lengths satellites : List ℕ) where
  pub end_all : (k : ℕ) → slots_before lengths satellites (k - 0) 0 0 ≡ slots_before lengths satellites k 0 0
  end_all k = let e : k - 0 ≡ k = omega arith in rw e

  pub end_over : (k j i : ℕ) → k ≤ j → slots_before lengths satellites (k - j) j i ≡ i
  unfolding slots_before
  end_over k j i h = let e : k - j ≡ 0 = omega arith in rw e

  -- more rows end later
  end_past : (k j i : ℕ) → i ≤ slots_before lengths satellites k j i
  unfolding slots_before
  end_past zero j i = omega arith
  end_past (suc k) j i = omega (arith, end_past k (j + 1) (i + row_codes lengths satellites j))

  -- a turn of the loop over k rows, at row j, which has n codes: the rows behind it end where all end
  pub end_turn : (k j i n : ℕ) → j < k → n ≡ row_codes lengths satellites j → slots_before lengths satellites (k - j) j i ≡ slots_before lengths satellites k 0 0
      → (slots_before lengths satellites (k - (j + 1)) (j + 1) (i + n) ≡ slots_before lengths satellites k 0 0) × (i + n ≤ slots_before lengths satellites k 0 0)
  unfolding slots_before
  end_turn k j i n h e all =
      let m : k - j ≡ suc (k - (j + 1)) = omega arith in
      let t : slots_before lengths satellites (k - j) j i ≡ slots_before lengths satellites (k - (j + 1)) (j + 1) (i + n) = rw (m, e) in
      let r : slots_before lengths satellites (k - (j + 1)) (j + 1) (i + n) ≡ slots_before lengths satellites k 0 0 = sym t ∙ all in
      (r, omega (arith, r, end_past (k - (j + 1)) (j + 1) (i + n)))

  ends_on : (k m j i : ℕ) → slots_before lengths satellites (k + m) j i ≡ slots_before lengths satellites m (j + k) (slots_before lengths satellites k j i)
  unfolding slots_before
  ends_on zero m j i =
      let e : 0 + m ≡ m = omega arith in
      let f : j + 0 ≡ j = omega arith in
      rw (e, f)
  ends_on (suc k) m j i =
      let e : suc k + m ≡ suc (k + m) = omega arith in
      let f : j + suc k ≡ j + 1 + k = omega arith in
      rw (e, f) (ends_on k m (j + 1) (i + row_codes lengths satellites j))

  -- the slots of row j lie before the end of all
  pub row_within : (j k : ℕ) → j < k → slots_before lengths satellites j 0 0 + row_codes lengths satellites j ≤ slots_before lengths satellites k 0 0
  unfolding slots_before
  row_within j k h =
      let i : ℕ = slots_before lengths satellites j 0 0 in
      let e : k ≡ j + suc (k - (j + 1)) = omega arith in
      let f : 0 + j ≡ j = omega arith in
      let s : slots_before lengths satellites k 0 0 ≡ slots_before lengths satellites (k - (j + 1)) (j + 1) (i + row_codes lengths satellites j) =
      ap (λ (m : ℕ). slots_before lengths satellites m 0 0) e ∙ (ends_on j (suc (k - (j + 1))) 0 0 ∙ ap (λ (m : ℕ). slots_before lengths satellites (suc (k - (j + 1))) m i) f) in
      omega (arith, s, end_past (k - (j + 1)) (j + 1) (i + row_codes lengths satellites j))
