-- A line as the code walks it: columns stored one by one, blanks in a part, a cut from the end. Assumes nothing.
use Prim.Native.Nat.{ℕ, zero, suc, ◌+◌, ◌-◌, ◌≤◌, ◌<◌, min}
use mathlib.Core.Path.{◌≡◌, refl, sym, ap, ◌∙◌}
use mathlib.Core.Bool.{Bool, true, false, ◌&&◌}
use mathlib.Core.List.{List, [], ◌∷◌, ◌++◌}
use native.Mathlib.Nat.{add-zero}
use native.Mathlib.Numerals.{add-one}
use native.Mathlib.Omega.{arith}
use lib.Dec.{eqb}
use lib.ListN.{length, get_or, take, drop, set, replicate, length-drop, drop_of_length-le, take-append-drop}
use lib.Seq.{take-nil, take_all, take-suc-set, drop-drop, get_or-drop, length-take-le}
use borrow.Author.Tests.{eqb-true, ne_eqb}
use Rattle.lists.specs.Blank.{is_blank, Blank}
use Rattle.lists.proofs.Every.{every_at, every_on}
use Rattle.std.specs.Cmp.Lexicographic.{pointwise}
use Rattle.std.proofs.lemmas.List.{drop-take}
use Rattle.std.proofs.lemmas.Slice.Eq.{bytes_eq-Decides}
use Rattle.line.specs.Text.{cols, cut}
use Rattle.line.proofs.Columns.{window, cols_window}

-- below the length the default does not matter
pub get_d_any : {A : Type 0} (l : List A) (i : ℕ) (d e : A) → i < length l → get_or l i d ≡ get_or l i e
get_d_any [] i d e h = absurd (omega arith)
get_d_any (x ∷ l) zero d e h = refl
get_d_any (x ∷ l) (suc i) d e h = get_d_any l i d e (omega arith)

-- Columns stored one by one: those before place i stand
window_more : (k j : ℕ) (l : List ℕ) → window (suc k) j l ≡ window k j l ++ (get_or l (j + k) 32 ∷ [])
window_more zero j l = rw add-zero
window_more (suc k) j l =
    let e : j + suc k ≡ suc j + k = omega arith in
    rw e (ap (λ (r : List ℕ). get_or l j 32 ∷ r) (window_more k (suc j) l))

module _ (out l : List ℕ) (i j : ℕ) where
  pub column_stored : (v : ℕ) → i < length out → v ≡ get_or l (j + i) 32 → take i out ≡ window i j l → take (i + 1) (set out i v) ≡ window (i + 1) j l
  column_stored v h e p =
      let n : i + 1 ≡ suc i = add-one i in
      rw (n, take-suc-set out i v h, window_more i j l, p, e)

  pub columns_stored : (a b : ℕ) → 1 ≤ a → j ≡ a - 1 → length out ≤ i → i ≤ length out → b + 1 ≡ a + length out → take i out ≡ window i j l → out ≡ cols a b l
  columns_stored a b h e p q n w =
      let k : i ≡ b + 1 - a = omega arith in
      sym (take_all i out p) ∙ (w ∙ rw (k, e) (sym (cols_window a b l)))

-- from the line's end on as from any place behind it, and up to it
drop_to : (l : List ℕ) (i s : ℕ) → s ≡ min i (length l) → drop s l ≡ drop i l
drop_to [] zero s e = let z : s ≡ 0 = omega arith in rw z
drop_to [] (suc i) s e = let z : s ≡ 0 = omega arith in rw z
drop_to (x ∷ l) zero s e = let z : s ≡ 0 = omega arith in rw z
drop_to (x ∷ l) (suc i) zero e = absurd (omega arith)
drop_to (x ∷ l) (suc i) (suc s) e = drop_to l i s (omega arith)

take_to : (l : List ℕ) (i s : ℕ) → s ≡ min i (length l) → take s l ≡ take i l
take_to [] i s e = let z : s ≡ 0 = omega arith in rw z (sym (take-nil i))
take_to (x ∷ l) zero s e = let z : s ≡ 0 = omega arith in rw z
take_to (x ∷ l) (suc i) zero e = absurd (omega arith)
take_to (x ∷ l) (suc i) (suc s) e = ap (λ (r : List ℕ). x ∷ r) (take_to l i s (omega arith))

-- a byte of what the line has from column a on
pub rest_byte : (l : List ℕ) (a s i : ℕ) → s ≡ min (a - 1) (length l) → get_or (take (length l - s) (drop s l)) i 32 ≡ get_or l (a - 1 + i) 32
rest_byte l a s i e =
    let whole : take (length l - s) (drop s l) ≡ drop s l = take_all (length l - s) (drop s l) (simp length-drop (omega arith)) in
    rw (whole, drop_to l (a - 1) s e) (get_or-drop (a - 1) l i 32)

-- Blanks in the part of a line that columns a to b are
pub blank_part : (s : List ℕ) (k m : ℕ) → is_blank (take k (s ++ replicate m 32)) ≡ is_blank (take k s)
blank_part [] zero m = refl
blank_part [] (suc k) zero = refl
blank_part [] (suc k) (suc m) = blank_part [] k m ∙ None k
  where
    None : (k : ℕ) → is_blank (take k []) ≡ true
    None zero = refl
    None (suc k) = refl
blank_part (x ∷ s) zero m = refl
blank_part (x ∷ s) (suc k) m = ap (λ (t : Bool). eqb x 32 && t) (blank_part s k m)

module _ (l : List ℕ) (a b : ℕ) where
  blank_cols : is_blank (cols a b l) ≡ is_blank (take (b + 1 - a) (drop (a - 1) l))
  unfolding cols
  blank_cols = blank_part (drop (a - 1) l) (b + 1 - a) (b + 1 - a)

  -- up to the line's end or to column b
  pub blank_up_to : (end : ℕ) → 1 ≤ a → end ≡ min b (length l) → is_blank (cols a b l) ≡ is_blank (take (end - (a - 1)) (drop (a - 1) l))
  blank_up_to end h e = blank_cols ∙ ap is_blank (sym (take_to (drop (a - 1) l) (b + 1 - a) (end - (a - 1)) (omega (arith, length-drop (a - 1) l))))

  pub blank_none : (end : ℕ) → 1 ≤ a → end ≡ min b (length l) → end ≤ a - 1 → true ≡ is_blank (cols a b l)
  blank_none end h e k = let z : end - (a - 1) ≡ 0 = omega arith in rw (blank_up_to end h e, z)

-- A cut from the end: the last byte that is no blank ends the line
pub cut_blank : (l : List ℕ) → Blank l → [] ≡ cut l
unfolding cut
cut_blank [] h = refl
cut_blank (b ∷ l) h = rw h

not_blank : (l : List ℕ) (n : ℕ) → n < length l → (get_or l n 0 ≡ 32 → ⊥) → is_blank l ≡ false
not_blank l n h k = go (is_blank l) refl
  where
    go : (c : Bool) → is_blank l ≡ c → c ≡ false
    go true e = absurd (k (eqb-true (get_or l n 0) 32 (every_at (λ b. eqb b 32) l n 0 e h)))
    go false e = refl

cut_stop : (l : List ℕ) (n : ℕ) → n < length l → (get_or l n 0 ≡ 32 → ⊥) → Blank (drop (suc n) l) → take (suc n) l ≡ cut l
unfolding cut
cut_stop [] n h k p = absurd (omega arith)
cut_stop (b ∷ l) zero h k p = rw (ne_eqb b 32 k, ← cut_blank l p)
cut_stop (b ∷ l) (suc n) h k p =
    let f : is_blank (b ∷ l) ≡ false = not_blank (b ∷ l) (suc n) h k in
    rw (f, ← cut_stop l n (omega arith) k p)

module _ (l : List ℕ) (n : ℕ) where
  pub cut_here : 0 < n → n ≤ length l → (get_or l (n - 1) 0 ≡ 32 → ⊥) → Blank (drop n l) → take n l ≡ cut l
  cut_here h q k p = let e : n ≡ suc (n - 1) = omega arith in rw e (cut_stop l (n - 1) (omega arith) k (rw e at p))

-- with blanks before it, what is blank stays so
pub blank_before : (l : List ℕ) (k n : ℕ) → k ≤ n → Blank (take (n - k) (drop k l)) → Blank (drop n l) → Blank (drop k l)
blank_before l k n h p q =
    let e : k + (n - k) ≡ n = omega arith in
    let d : drop (n - k) (drop k l) ≡ drop n l = drop-drop (n - k) k l ∙ ap (λ (i : ℕ). drop i l) e in
    ap is_blank (sym (take-append-drop (n - k) (drop k l))) ∙ every_on (λ b. eqb b 32) (take (n - k) (drop k l)) (drop (n - k) (drop k l)) p (ap is_blank d ∙ q)

pub blank_over : (l : List ℕ) (n : ℕ) → length l ≤ n → Blank (drop n l)
blank_over l n h = rw (drop_of_length-le l h)

-- blanks that end the part of a line up to place n
pub ends_blank : (l : List ℕ) (n : ℕ) (p : List ℕ) → n ≤ length l → length p ≤ n → Blank p → true ≡ pointwise eqb p (drop (length (take n l) - length p) (take n l)) → Blank (drop n l)
    → Blank (drop (n - length p) l)
ends_blank l n p h k b e r =
    let from : ℕ = n - length p in
    let m : length (take n l) - length p ≡ from = omega (arith, length-take-le n l h) in
    let d : p ≡ drop (length (take n l) - length p) (take n l) = (bytes_eq-Decides p (drop (length (take n l) - length p) (take n l))).0 (sym e) in
    let s : from + length p ≡ n = omega arith in
    let t : drop from (take n l) ≡ take (length p) (drop from l) = rw s at (drop-take from (length p) l) in
    let u : n - from ≡ length p = omega arith in
    let q : p ≡ take (n - from) (drop from l) = d ∙ (ap (λ (i : ℕ). drop i (take n l)) m ∙ (t ∙ ap (λ (i : ℕ). take i (drop from l)) (sym u))) in
    blank_before l from n (omega arith) (ap is_blank (sym q) ∙ b) r
