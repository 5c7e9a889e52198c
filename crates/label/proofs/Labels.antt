-- The table of labels, and the label of a line. Assumes nothing.
use Prim.Native.String.{String}
use Prim.Native.Nat.{ℕ, zero, suc, ◌≤◌, ◌<◌}
use mathlib.Core.Path.{◌≡◌, refl, sym, ap, ◌∙◌}
use mathlib.Core.Bool.{Bool, true, false, cond, not, ◌&&◌, true≢false}
use mathlib.Core.List.{List, [], ◌∷◌, map}
use native.Mathlib.Omega.{arith}
use lib.Dec.{eqb, ltb}
use lib.ListN.{length, get_or}
use borrow.Author.Tests.{eqb-true, not-true, ltb-true, ltb-false}
use Rattle.lists.specs.Lists.{All, bytes, same, place, is_in}
use Rattle.lists.proofs.Bools.{both, both_ways, neither, or_right}
use Rattle.lists.proofs.Lists.{same_true, eq_same, same_refl}
use Rattle.lists.proofs.Places.{place_at, in_place}
use Rattle.line.specs.Text.{are_plain, cols, cut}
use Rattle.line.proofs.Columns.{cols_cut, length_filled}
use Rattle.label.specs.Labels.{padded, Known, known, among, labels, columns_at, kind_at, label_place, label_of}
use Rattle.label.specs.declared.Label.TheVariants.{Unknown}
use Rattle.lists.proofs.Parts.{get_d_over}

-- ONE TEST over the whole table: each label has 20 columns, all of them plain, and none stands among those before it
abbrev fit : List (List ℕ) → List ℕ → Bool
fit seen x = eqb (length x) 20 && (are_plain x && not (is_in same x seen))

abbrev fits : List (List ℕ) → List (List ℕ) → Bool
fits seen [] = true
fits seen (x ∷ xs) = fit seen x && fits (x ∷ seen) xs

labels_fit : fits [] labels ≡ true
unfolding labels known padded
labels_fit = refl

pub labels_number : length labels ≡ 33
unfolding labels known
labels_number = refl

-- what the test says of each entry
record Entry (seen : List (List ℕ)) (x : List ℕ) : Type 0 where
  width : length x ≡ 20
  plain : are_plain x ≡ true
  new : is_in same x seen ≡ false

entry : (seen : List (List ℕ)) (x : List ℕ) → fit seen x ≡ true → Entry seen x
entry seen x h =
    let p = both (eqb (length x) 20) (are_plain x && not (is_in same x seen)) h in
    let q = both (are_plain x) (not (is_in same x seen)) p.1 in
    record { width = eqb-true (length x) 20 p.0; plain = q.0; new = not-true (is_in same x seen) q.1 }

fits_width : (seen xs : List (List ℕ)) → fits seen xs ≡ true → All (λ (x : List ℕ). length x ≡ 20) xs
fits_width seen [] h = tt
fits_width seen (x ∷ xs) h = let p = both (fit seen x) (fits (x ∷ seen) xs) h in ((entry seen x p.0).width, fits_width (x ∷ seen) xs p.1)

pub labels_width : All (λ (x : List ℕ). length x ≡ 20) labels
labels_width = fits_width [] labels labels_fit

-- no entry is one of those seen, and no two are the same
fits_new : (seen xs : List (List ℕ)) → fits seen xs ≡ true → (n : ℕ) → n < length xs → is_in same (get_or xs n []) seen ≡ false
fits_new seen [] h n k = absurd (omega arith)
fits_new seen (x ∷ xs) h zero k = (entry seen x (both (fit seen x) (fits (x ∷ seen) xs) h).0).new
fits_new seen (x ∷ xs) h (suc n) k =
    (neither (same (get_or xs n []) x) (is_in same (get_or xs n []) seen) (fits_new (x ∷ seen) xs (both (fit seen x) (fits (x ∷ seen) xs) h).1 n (omega arith))).1

fits_apart : (seen xs : List (List ℕ)) → fits seen xs ≡ true → (j k : ℕ) → j < k → k < length xs → get_or xs j [] ≡ get_or xs k [] → ⊥
fits_apart seen [] h j k p q e = absurd (omega arith)
fits_apart seen (x ∷ xs) h j zero p q e = absurd (omega arith)
fits_apart seen (x ∷ xs) h zero (suc k) p q e =
    let n = fits_new (x ∷ seen) xs (both (fit seen x) (fits (x ∷ seen) xs) h).1 k (omega arith) in
    let m = (neither (same (get_or xs k []) x) (is_in same (get_or xs k []) seen) n).0 in
    true≢false (sym (eq_same (get_or xs k []) x (sym e)) ∙ m)
fits_apart seen (x ∷ xs) h (suc j) (suc k) p q e = fits_apart (x ∷ seen) xs (both (fit seen x) (fits (x ∷ seen) xs) h).1 j k (omega arith) (omega arith) e

in_table : (n : ℕ) → n < 33 → n < length labels
in_table n h = omega (arith, labels_number)

pub length_padded : (s : String) → length (padded s) ≡ 20
unfolding padded
length_padded s = length_filled 20 (bytes s)

pub labels_apart : (j k : ℕ) → j < 33 → k < 33 → columns_at j ≡ columns_at k → j ≡ k
unfolding columns_at
labels_apart j k p q e = at (ltb j k) (ltb k j) refl refl
  where
    at : (b c : Bool) → ltb j k ≡ b → ltb k j ≡ c → j ≡ k
    at true c u v = absurd (fits_apart [] labels labels_fit j k (ltb-true j k u) (in_table k q) e)
    at false true u v = absurd (fits_apart [] labels labels_fit k j (ltb-true k j v) (in_table j p) (sym e))
    at false false u v = omega (arith, ltb-false j k u, ltb-false k j v)

place_most : {A : Type 0} (eq : A → A → Bool) (x : A) (ys : List A) → place eq x ys ≤ length ys
place_most eq x [] = omega arith
place_most eq x (y ∷ ys) = at (eq x y) (place_most eq x ys)
  where
    at : (b : Bool) → place eq x ys ≤ length ys → cond b 0 (suc (place eq x ys)) ≤ suc (length ys)
    at true h = omega arith
    at false h = omega arith

in_at : (ys : List (List ℕ)) (n : ℕ) → n < length ys → is_in same (get_or ys n []) ys ≡ true
in_at [] n h = absurd (omega arith)
in_at (y ∷ ys) zero h = rw (same_refl y)
in_at (y ∷ ys) (suc n) h = or_right (same (get_or ys n []) y) _ (in_at ys n (omega arith))

-- THE LABEL OF A LINE
module _ (l : List ℕ) where
  label_most : label_place l ≤ 33
  unfolding label_place
  label_most = rw (← labels_number) (place_most same (cols 61 80 l) labels)

  -- its columns are those of the entry at its place
  pub label_known : label_place l < 33 → cols 61 80 l ≡ columns_at (label_place l)
  unfolding label_place columns_at
  label_known h = sym (place_at same same_true [] (cols 61 80 l) labels (omega (arith, labels_number)))

  -- no entry has its columns
  pub label_none : label_place l ≡ 33 → (n : ℕ) → n < 33 → cols 61 80 l ≡ columns_at n → ⊥
  unfolding label_place columns_at
  label_none h n k e =
      let i : is_in same (cols 61 80 l) labels ≡ true = rw e (in_at labels n (in_table n k)) in
      let p : place same (cols 61 80 l) labels < length labels = in_place same same_true [] (cols 61 80 l) labels i in
      omega (arith, labels_number)

  -- an entry with its columns stands at its place
  pub label_at : (n : ℕ) → n < 33 → cols 61 80 l ≡ columns_at n → label_place l ≡ n
  label_at n k e = at (ltb (label_place l) 33) refl
    where
      at : (c : Bool) → ltb (label_place l) 33 ≡ c → label_place l ≡ n
      at true u = let h : label_place l < 33 = ltb-true (label_place l) 33 u in labels_apart (label_place l) n h k (sym (label_known h) ∙ e)
      at false u = let h : label_place l ≡ 33 = omega (arith, label_most, ltb-false (label_place l) 33 u) in absurd (label_none h n k e)

-- a line that is cut has the same one
pub label_cut : (l : List ℕ) → label_of (cut l) ≡ label_of l
unfolding label_of
label_cut l = ap (among known) (cols_cut 61 80 l (omega arith))

-- what it is follows from its place
same_sym : (s t : List ℕ) → same s t ≡ same t s
same_sym s t = both_ways (same s t) (same t s) (λ e. eq_same t s (sym (same_true s t e))) (λ e. eq_same s t (sym (same_true t s e)))

among_place : (rs : List Known) (s : List ℕ)
    → among rs s ≡ get_or (map (λ (r : Known). r.label) rs) (place same s (map (λ (r : Known). r.columns) rs)) Unknown
unfolding among
among_place [] s = refl
among_place (r ∷ rs) s = rw (same_sym r.columns s) (at (same s r.columns) (among_place rs s))
  where
    at : (b : Bool) → among rs s ≡ get_or (map (λ (r : Known). r.label) rs) (place same s (map (λ (r : Known). r.columns) rs)) Unknown
        → cond b r.label (among rs s)
        ≡ get_or (r.label ∷ map (λ (r : Known). r.label) rs) (cond b 0 (suc (place same s (map (λ (r : Known). r.columns) rs)))) Unknown
    at true ih = refl
    at false ih = ih

pub label_kind : (l : List ℕ) → label_of l ≡ kind_at (label_place l)
unfolding label_of kind_at label_place labels
label_kind l = among_place known (cols 61 80 l)

pub kind_over : (n : ℕ) → 33 ≤ n → kind_at n ≡ Unknown
unfolding kind_at known
kind_over n h = get_d_over (map (λ (r : Known). r.label) known) n Unknown h
