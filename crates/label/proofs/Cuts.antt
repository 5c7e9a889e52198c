-- A label without its trailing blanks, beside the 20 columns of an entry, and cut out of its line. Assumes nothing.
use Prim.Native.Nat.{ℕ, zero, suc, ◌-◌, ◌≤◌, ◌<◌, min}
use mathlib.Core.Path.{◌≡◌, refl, sym, ap, ◌∙◌}
use mathlib.Core.Bool.{Bool, true, false, cond}
use mathlib.Core.List.{List, [], ◌∷◌, ◌++◌}
use native.Mathlib.Omega.{arith}
use lib.ListN.{length, take, drop, replicate, drop_of_length-le, length-take, length-drop}
use lib.Seq.{take_all, take-take, take-nil, get_or-take}
use Rattle.lists.specs.Lists.{same, place}
use Rattle.lists.specs.Blank.{is_blank}
use Rattle.lists.proofs.Lists.{same_true, eq_same}
use Rattle.lists.proofs.Bools.{both_ways}
use Rattle.line.specs.Text.{cols, cut}
use Rattle.line.proofs.Columns.{cols_cut, cols_within, length_cut, cut_cut, cols_same}
use Rattle.line.proofs.Turns.{blank_part, cut_blank}
use Rattle.label.specs.Labels.{labels, known, padded, label_place}
use Rattle.label.specs.Groups.{Cut}

-- blanks behind a label change nothing in its cut
blank_filled : (s : List ℕ) (n m : ℕ) → length s ≤ n → is_blank (take n (s ++ replicate m 32)) ≡ is_blank s
blank_filled s n m h = blank_part s n m ∙ ap is_blank (take_all n s h)

cut_filled : (s : List ℕ) (n m : ℕ) → length s ≤ n → cut (take n (s ++ replicate m 32)) ≡ cut s
unfolding cut
cut_filled [] n m h = sym (cut_blank (take n (replicate m 32)) (blank_filled [] n m h))
cut_filled (b ∷ s) zero m h = absurd (omega arith)
cut_filled (b ∷ s) (suc n) m h = rw (blank_filled s n m (omega arith), cut_filled s n m (omega arith))

-- to compare a label with an entry's cut is to compare the columns
module _ (name c : List ℕ) (q : Cut name) (w : length c ≡ 20) where
  filled_cut : cols 1 20 name ≡ c → name ≡ cut c
  unfolding cols
  filled_cut e = sym q.is_cut ∙ (sym (cut_filled name 20 20 q.width) ∙ ap cut e)

  cut_is_filled : name ≡ cut c → cols 1 20 name ≡ c
  cut_is_filled e =
      ap (cols 1 20) e ∙ (cols_cut 1 20 c (omega arith) ∙ (cols_within 1 20 c (omega arith) (omega arith) ∙ take_all 20 c (omega arith)))

  pub same_filled : same name (cut c) ≡ same (cols 1 20 name) c
  same_filled =
      both_ways (same name (cut c)) (same (cols 1 20 name) c) (λ e. eq_same (cols 1 20 name) c (cut_is_filled (same_true name (cut c) e)))
      (λ e. eq_same name (cut c) (filled_cut (same_true (cols 1 20 name) c e)))

-- THE LABEL OF A LINE, up to the last of columns 1 to 80 that is filled
cut_on : (k : ℕ) (l : List ℕ) → cut (drop k (cut l)) ≡ drop k (cut l)
unfolding cut
cut_on zero l = cut_cut l
cut_on (suc k) [] = refl
cut_on (suc k) (b ∷ l) = at (is_blank (b ∷ l)) (cut_on k l)
  where
    at : (c : Bool) → cut (drop k (cut l)) ≡ drop k (cut l) → cut (drop (suc k) (cond c [] (b ∷ cut l))) ≡ drop (suc k) (cond c [] (b ∷ cut l))
    at true h = refl
    at false h = h

-- `&l[k..n]`, as the borrow checker has it
parted : (k n : ℕ) (l : List ℕ) → drop k (take n l) ≡ take (n - k) (drop k l)
parted zero n l = let e : n - 0 ≡ n = omega arith in rw e
parted (suc k) zero l = let e : 0 - suc k ≡ 0 = omega arith in rw e
parted (suc k) (suc n) [] = sym (take-nil (suc n - suc k))
parted (suc k) (suc n) (b ∷ l) = let e : suc n - suc k ≡ n - k = omega arith in rw e (parted k n l)

module _ (l : List ℕ) (n : ℕ) (e : take n l ≡ cut (take 80 l)) where
  columns_are : cols 61 80 (take n l) ≡ cols 61 80 l
  columns_are =
      ap (cols 61 80) e ∙ (cols_cut 61 80 (take 80 l) (omega arith) ∙ cols_same 61 80 (take 80 l) l (omega arith) (λ i h. get_or-take 80 l i 32 h))

  name_cut : 60 < n → n ≤ length l → Cut (drop 60 (take n l))
  name_cut h k = record { some_letter = simp (length-drop, length-take) (omega arith); width = short; is_cut = rw e (cut_on 60 (take 80 l)) }
    where
      short : length (drop 60 (take n l)) ≤ 20
      short =
          let a : length (take n l) ≡ length (cut (take 80 l)) = ap length e in
          let b : length (take 80 l) ≤ 80 = simp length-take (omega arith) in
          simp length-drop (omega (arith, length_cut (take 80 l)))

  pub label_name : 60 < n → n ≤ length l → Cut (take (n - 60) (drop 60 l))
  label_name h k = rw (sym (parted 60 n l)) (name_cut h k)

  pub label_filled : cols 1 20 (take (n - 60) (drop 60 l)) ≡ cols 61 80 l
  unfolding cols
  label_filled = rw (sym (parted 60 n l)) columns_are

  pub label_empty : n ≤ 60 → 33 ≡ label_place l
  unfolding label_place cols labels known padded
  label_empty h =
      let a : length (take n l) ≤ n = simp length-take (omega arith) in
      let None : drop 60 (take n l) ≡ [] = drop_of_length-le (take n l) {i = 60} (omega arith) in
      let b : cols 61 80 (take n l) ≡ replicate 20 32 = ap (λ (s : List ℕ). take 20 (s ++ replicate 20 32)) None in
      sym (ap (λ (s : List ℕ). place same s labels) (sym columns_are ∙ b))

-- the front of a line's first 80 columns
pub front_is : (l : List ℕ) (r : ℕ) → r ≤ length (take 80 l) → take r (take 80 l) ≡ cut (take 80 l) → (r ≤ length l) × (take r l ≡ cut (take 80 l))
front_is l r h e =
    let a : r ≤ min 80 (length l) = simp length-take at h in
    let b : r ≤ 80 = omega arith in
    (omega arith, sym (take-take r 80 l b) ∙ e)
