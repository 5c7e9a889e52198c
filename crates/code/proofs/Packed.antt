-- Codes as numbers: those of a line one after the other, and those of the table. Assumes nothing.
use Prim.Native.Nat.{ℕ, suc, ◌+◌, ◌-◌, ◌*◌, ◌/◌, ◌%◌, ◌≤◌, ◌<◌}
use mathlib.Core.Path.{◌≡◌, refl, sym, ap, ◌∙◌}
use mathlib.Core.Bool.{Bool, true, false, ◌&&◌, ◌||◌}
use mathlib.Core.List.{List, [], ◌∷◌, ◌++◌, map}
use native.Mathlib.Omega.{arith}
use Rattle.std.specs.List.{list_any}
use lib.Dec.{eqb}
use lib.ListN.{length, take, drop, set, length-drop}
use lib.Seq.{sets, drop-set-add, take-suc-set}
use borrow.Author.Tests.{eq-eqb, eqb-true, eqb-false, ne_eqb}
use Rattle.lists.specs.Lists.{is_in, fresh}
use Rattle.lists.specs.Blank.{is_blank}
use Rattle.line.specs.Text.{col, cols}
use Rattle.line.proofs.Columns.{cols_window}
use Rattle.rinex.specs.Codes.{is_taken}
use Rattle.rinex.specs.Tables.{packed}
use Rattle.rinex.specs.Fit.{unpacked}
use Rattle.rinex.specs.Tests.{codes_at, codes_fit}
use Rattle.rinex.proofs.LentLists.{packed_unpacked}
use Rattle.lists.proofs.Bytes.{fails}

-- THOSE OF A LINE, ONE AFTER THE OTHER
pub three : (a : ℕ) (l : List ℕ) → 1 ≤ a → cols a (a + 2) l ≡ col a l ∷ col (a + 1) l ∷ col (a + 2) l ∷ []
unfolding col
three a l h =
    let n : a + 2 + 1 - a ≡ 3 = omega arith in
    let p : a + 1 - 1 ≡ suc (a - 1) = omega arith in
    let q : a + 2 - 1 ≡ suc (suc (a - 1)) = omega arith in
    cols_window a (a + 2) l ∙ rw (n, p, q)

pub unpack : (x y z : ℕ) → y < 256 → z < 256 → unpacked ((x * 256 + y) * 256 + z) ≡ x ∷ y ∷ z ∷ []
unpack x y z h k =
    let p : ((x * 256 + y) * 256 + z) / 65536 ≡ x = omega arith in
    let q : ((x * 256 + y) * 256 + z) / 256 % 256 ≡ y = omega arith in
    let r : ((x * 256 + y) * 256 + z) % 256 ≡ z = omega arith in
    λ i. p i ∷ q i ∷ r i ∷ []

-- a turn of the loop that tests them, at the i-th of n
module _ (y n i : ℕ) (l : List ℕ) (h : i < n) where
  fit_next : codes_fit y (n - i) (7 + 4 * i) l
      ≡ (eqb (col (7 + 4 * i) l) 32 && (is_taken y (cols (7 + 4 * i + 1) (7 + 4 * i + 3) l) && codes_fit y (n - (i + 1)) (7 + 4 * (i + 1)) l))
  unfolding codes_fit
  fit_next =
      let e : n - i ≡ suc (n - (i + 1)) = omega arith in
      let d : 7 + 4 * (i + 1) ≡ 7 + 4 * i + 4 = omega arith in
      rw (e, d)

  pub fit_no_blank : (col (7 + 4 * i) l ≡ 32 → ⊥) → codes_fit y (n - i) (7 + 4 * i) l ≡ false
  fit_no_blank b = fit_next ∙ rw (ne_eqb (col (7 + 4 * i) l) 32 b)

  module _ (k : ℕ) (c : unpacked k ≡ cols (7 + 4 * i + 1) (7 + 4 * i + 1 + 2) l) where
    code_there : is_taken y (unpacked k) ≡ is_taken y (cols (7 + 4 * i + 1) (7 + 4 * i + 3) l)
    code_there =
        let e : 7 + 4 * i + 1 + 2 ≡ 7 + 4 * i + 3 = omega arith in
        ap (is_taken y) (c ∙ ap (λ (b : ℕ). cols (7 + 4 * i + 1) b l) e)

    pub fit_no_code : is_taken y (unpacked k) ≡ false → codes_fit y (n - i) (7 + 4 * i) l ≡ false
    fit_no_code t = fit_next ∙ fails (eqb (col (7 + 4 * i) l) 32) _ (rw (sym code_there ∙ t))

    pub fit_more : col (7 + 4 * i) l ≡ 32 → is_taken y (unpacked k) ≡ true → codes_fit y (n - i) (7 + 4 * i) l ≡ codes_fit y (n - (i + 1)) (7 + 4 * (i + 1)) l
    fit_more b t = fit_next ∙ rw (eq-eqb (col (7 + 4 * i) l) 32 b, sym code_there ∙ t)

pub fit_all : (y n i : ℕ) (l : List ℕ) → n ≤ i → i ≤ n → codes_fit y (n - i) (7 + 4 * i) l ≡ is_blank (cols (7 + 4 * n) 60 l)
unfolding codes_fit
fit_all y n i l h k =
    let e : n - i ≡ 0 = omega arith in
    let d : i ≡ n = omega arith in
    rw (e, d)

-- THOSE OF THE TABLE
-- a number stands in a list, as `contains` has it
pub in_any : (x : ℕ) (ys : List ℕ) → list_any (λ y. eqb y x) ys ≡ is_in eqb x ys
in_any x [] = refl
in_any x (y ∷ ys) = ap (λ (b : Bool). b || list_any (λ y. eqb y x) ys) (turned (eqb x y) refl) ∙ ap (λ (b : Bool). eqb x y || b) (in_any x ys)
  where
    turned : (b : Bool) → eqb x y ≡ b → eqb y x ≡ eqb x y
    turned true e = eq-eqb y x (sym (eqb-true x y e)) ∙ sym e
    turned false e = ne_eqb y x (λ d. eqb-false x y e (sym d)) ∙ sym e

-- a turn of the loop that puts them, at the i-th of n
codes_next : (n i : ℕ) (l : List ℕ) → i < n → codes_at (n - i) (7 + 4 * i) l ≡ cols (8 + 4 * i) (8 + 4 * i + 2) l ∷ codes_at (n - (i + 1)) (7 + 4 * (i + 1)) l
unfolding codes_at
codes_next n i l h =
    let e : n - i ≡ suc (n - (i + 1)) = omega arith in
    let d : 7 + 4 * (i + 1) ≡ 7 + 4 * i + 4 = omega arith in
    let p : 8 + 4 * i + 2 ≡ 7 + 4 * i + 3 = omega arith in
    let q : 8 + 4 * i ≡ 7 + 4 * i + 1 = omega arith in
    rw (e, d, p, q)

-- what is left of n codes, as numbers
abbrev pub left : ℕ → ℕ → List ℕ → List ℕ
left n i l = map packed (codes_at (n - i) (7 + 4 * i) l)

pub left_none : (n i : ℕ) (l : List ℕ) → n ≤ i → left n i l ≡ []
unfolding codes_at
left_none n i l h = let e : n - i ≡ 0 = omega arith in rw e

module _ (n i : ℕ) (l : List ℕ) (h : i < n) (k : ℕ) (c : unpacked k ≡ cols (8 + 4 * i) (8 + 4 * i + 2) l) where
  left_next : left n i l ≡ k ∷ left n (i + 1) l
  left_next =
      let e : packed (cols (8 + 4 * i) (8 + 4 * i + 2) l) ≡ k = ap packed (sym c) ∙ packed_unpacked k in
      ap (map packed) (codes_next n i l h) ∙ rw e

  module _ (t : List ℕ) (from before : ℕ) where
    seen_there : take (from + before + i - from) (drop from t) ≡ take (before + i) (drop from t)
    seen_there = let e : from + before + i - from ≡ before + i = omega arith in rw e

    pub put_stop : is_in eqb k (take (from + before + i - from) (drop from t)) ≡ true → fresh eqb (take (before + i) (drop from t)) (left n i l) ≡ false
    put_stop s = rw (left_next, ← seen_there, s)

    module _ (m : from + before + i < length t) where
      put_seen : take (before + (i + 1)) (drop from (set t (from + before + i) k)) ≡ take (before + i) (drop from t) ++ (k ∷ [])
      put_seen =
          let e : from + before + i ≡ from + (before + i) = omega arith in
          let d : before + (i + 1) ≡ suc (before + i) = omega arith in
          let g : before + i < length (drop from t) = simp length-drop (omega arith) in
          rw (e, d, drop-set-add from t (before + i) k, take-suc-set (drop from t) (before + i) k g)

      pub put_fresh : is_in eqb k (take (from + before + i - from) (drop from t)) ≡ false
          → fresh eqb (take (before + (i + 1)) (drop from (set t (from + before + i) k))) (left n (i + 1) l) ≡ fresh eqb (take (before + i) (drop from t)) (left n i l)
      put_fresh s =
          let q : is_in eqb k (take (before + i) (drop from t)) ≡ false = ap (is_in eqb k) (sym seen_there) ∙ s in
          rw (left_next, put_seen, q)

      pub put_sets : sets (set t (from + before + i) k) (from + before + (i + 1)) (left n (i + 1) l) ≡ sets t (from + before + i) (left n i l)
      put_sets =
          let e : from + before + (i + 1) ≡ suc (from + before + i) = omega arith in
          rw (e, left_next)
