-- Columns of lines: of pieces one after the other, of a cut line, of plain bytes. Assumes nothing.
use Prim.Native.Nat.{ℕ, zero, suc, ◌+◌, ◌-◌, ◌≤◌, ◌<◌}
use mathlib.Core.Path.{◌≡◌, refl, sym, ap, ◌∙◌}
use mathlib.Core.Bool.{Bool, true, false, cond, ◌&&◌, ◌||◌, false≢true}
use mathlib.Core.List.{List, [], ◌∷◌, ◌++◌, append_assoc}
use native.Mathlib.Omega.{arith}
use lib.Dec.{eqb, leb}
use lib.ListN.{length, get_or, take, drop, replicate, length-append, length-take, length-replicate, length-drop, drop_of_length-le}
use lib.Seq.{take_at, drop_at, drop-drop, get_or-drop, take-append-le, length-take-le}
use borrow.Author.Tests.{eqb-true, le-leb, leb-true}
use Rattle.lists.specs.Lists.{is_in}
use Rattle.lists.specs.Blank.{is_blank, Blank}
use Rattle.lists.proofs.Bools.{both, all_of}
use Rattle.lists.proofs.Lists.{cons_same, cons_nil}
use Rattle.lists.proofs.Every.{every_cons, every_on, every_replicate, every_take}
use Rattle.line.specs.Text.{is_plain, are_plain, Line, col, cols, past, cut}
use Rattle.lists.proofs.Parts.{get_d_over}

-- k bytes from place j on, blanks past the end
abbrev pub window : ℕ → ℕ → List ℕ → List ℕ
window zero j l = []
window (suc k) j l = get_or l j 32 ∷ window k (suc j) l

window_down : (k j x : ℕ) (l : List ℕ) → window k (suc j) (x ∷ l) ≡ window k j l
window_down zero j x l = refl
window_down (suc k) j x l = ap (λ (r : List ℕ). get_or l j 32 ∷ r) (window_down k (suc j) x l)

window_none : (k m j : ℕ) → k ≤ m → take k (replicate m 32) ≡ window k j []
window_none zero m j h = refl
window_none (suc k) zero j h = absurd (omega arith)
window_none (suc k) (suc m) j h = ap (λ (r : List ℕ). 32 ∷ r) (window_none k m (suc j) (omega arith))

filled : (l : List ℕ) (k m j : ℕ) → k ≤ m → take k (drop j l ++ replicate m 32) ≡ window k j l
filled [] k m zero h = window_none k m zero h
filled [] k m (suc j) h = window_none k m (suc j) h
filled (x ∷ l) zero m zero h = refl
filled (x ∷ l) (suc k) m zero h = ap (λ (r : List ℕ). x ∷ r) (filled l k m zero (omega arith) ∙ sym (window_down k zero x l))
filled (x ∷ l) k m (suc j) h = filled l k m j h ∙ sym (window_down k j x l)

window_same : (k j : ℕ) (l m : List ℕ) → ((i : ℕ) → j ≤ i → i < j + k → get_or l i 32 ≡ get_or m i 32) → window k j l ≡ window k j m
window_same zero j l m h = refl
window_same (suc k) j l m h =
    let p : get_or l j 32 ≡ get_or m j 32 = h j (omega arith) (omega arith) in
    let q : window k (suc j) l ≡ window k (suc j) m = window_same k (suc j) l m (λ i a b. h i (omega arith) (omega arith)) in
    λ i. p i ∷ q i

pub cols_window : (a b : ℕ) (l : List ℕ) → cols a b l ≡ window (b + 1 - a) (a - 1) l
unfolding cols
cols_window a b l = filled l (b + 1 - a) (b + 1 - a) (a - 1) (omega arith)

-- the first of some columns
take_window : (n k j : ℕ) (l : List ℕ) → n ≤ k → take n (window k j l) ≡ window n j l
take_window zero k j l h = refl
take_window (suc n) zero j l h = absurd (omega arith)
take_window (suc n) (suc k) j l h = ap (λ (s : List ℕ). get_or l j 32 ∷ s) (take_window n k (suc j) l (omega arith))

pub cols_front : (a b e : ℕ) (l : List ℕ) → a ≤ b → b ≤ e → take (b - a + 1) (cols a e l) ≡ cols a b l
cols_front a b e l p q =
    let n : b - a + 1 ≡ b + 1 - a = omega arith in
    rw (n, cols_window a e l, cols_window a b l) (take_window (b + 1 - a) (e + 1 - a) (a - 1) l (omega arith))

-- lines with the same columns up to b
pub cols_same : (a b : ℕ) (l m : List ℕ) → 1 ≤ a → ((i : ℕ) → i < b → get_or l i 32 ≡ get_or m i 32) → cols a b l ≡ cols a b m
cols_same a b l m p h = cols_window a b l ∙ (window_same (b + 1 - a) (a - 1) l m (λ i u v. h i (omega arith)) ∙ sym (cols_window a b m))

col_same : (a : ℕ) (l m : List ℕ) → ((i : ℕ) → get_or l i 32 ≡ get_or m i 32) → col a l ≡ col a m
unfolding col
col_same a l m h = h (a - 1)

-- A piece x that stands in l from place j on, with r after it
pub cols_at : (a b : ℕ) (l x r : List ℕ) → drop (a - 1) l ≡ x ++ r → length x ≡ b + 1 - a → cols a b l ≡ x
unfolding cols
cols_at a b l x r e n = rw (e, append_assoc x r (replicate (b + 1 - a) 32)) (take_at x (r ++ replicate (b + 1 - a) 32) (b + 1 - a) n)

pub on : (j k : ℕ) (l x r : List ℕ) → drop j l ≡ x ++ r → length x ≡ k → drop (j + k) l ≡ r
on j k l x r e n = sym (drop-drop k j l) ∙ ap (drop k) e ∙ drop_at x r k n

pub col_at : (a : ℕ) (l : List ℕ) (x : ℕ) (r : List ℕ) → drop (a - 1) l ≡ x ∷ r → col a l ≡ x
unfolding col
col_at a l x r e = let p : a - 1 + 0 ≡ a - 1 = omega arith in sym (rw p at (get_or-drop (a - 1) l 0 32)) ∙ rw e

window_blank : (k j : ℕ) (l : List ℕ) → ((i : ℕ) → j ≤ i → i < j + k → get_or l i 32 ≡ 32) → Blank (window k j l)
window_blank zero j l h = refl
window_blank (suc k) j l h = rw (h j (omega arith) (omega arith)) (window_blank k (suc j) l (λ i a b. h i (omega arith) (omega arith)))

-- past a line's end all is blank
pub cols_end : (a b : ℕ) (l : List ℕ) → length l < a → Blank (cols a b l)
cols_end a b l h = rw (cols_window a b l) (window_blank (b + 1 - a) (a - 1) l (λ i u v. get_d_over l i 32 (omega arith)))

pub past_end : (a : ℕ) (l : List ℕ) → length l ≤ a → Blank (past a l)
past_end a l h = rw (drop_of_length-le l h)

blank_at : (l : List ℕ) (i : ℕ) → Blank l → get_or l i 32 ≡ 32
blank_at [] i h = refl
blank_at (b ∷ l) zero h = eqb-true b 32 (both (eqb b 32) (is_blank l) h).0
blank_at (b ∷ l) (suc i) h = blank_at l i (both (eqb b 32) (is_blank l) h).1

-- A cut line has the columns of the line
pub get_or_cut : (l : List ℕ) (i : ℕ) → get_or (cut l) i 32 ≡ get_or l i 32
unfolding cut
get_or_cut [] i = refl
get_or_cut (b ∷ l) i = go (is_blank (b ∷ l)) refl i (get_or_cut l)
  where
    go : (c : Bool) → is_blank (b ∷ l) ≡ c → (i : ℕ) → ((i : ℕ) → get_or (cut l) i 32 ≡ get_or l i 32) → get_or (cond c [] (b ∷ cut l)) i 32 ≡ get_or (b ∷ l) i 32
    go true e i ih = sym (blank_at (b ∷ l) i e)
    go false e zero ih = refl
    go false e (suc i) ih = ih i

pub length_cut : (l : List ℕ) → length (cut l) ≤ length l
unfolding cut
length_cut [] = omega arith
length_cut (b ∷ l) = go (is_blank (b ∷ l)) (length_cut l)
  where
    go : (c : Bool) → length (cut l) ≤ length l → length (cond c [] (b ∷ cut l)) ≤ suc (length l)
    go true h = omega arith
    go false h = omega arith

pub cols_cut : (a b : ℕ) (l : List ℕ) → 1 ≤ a → cols a b (cut l) ≡ cols a b l
cols_cut a b l h = cols_same a b (cut l) l h (λ i u. get_or_cut l i)

pub col_cut : (a : ℕ) (l : List ℕ) → col a (cut l) ≡ col a l
col_cut a l = col_same a (cut l) l (get_or_cut l)

pub past_cut : (l : List ℕ) (a : ℕ) → Blank (past a l) → Blank (past a (cut l))
unfolding cut
past_cut [] a h = h
past_cut (b ∷ l) a h = go (is_blank (b ∷ l)) refl a h (past_cut l)
  where
    none_left : (a : ℕ) → Blank (drop a [])
    none_left zero = refl
    none_left (suc a) = refl

    at_first : (c : Bool) → is_blank (b ∷ l) ≡ c → is_blank (b ∷ l) ≡ true → Blank (cond c [] (b ∷ cut l))
    at_first true e h = refl
    at_first false e h = absurd (false≢true (sym e ∙ h))

    go : (c : Bool) → is_blank (b ∷ l) ≡ c → (a : ℕ) → Blank (past a (b ∷ l)) → ((a : ℕ) → Blank (past a l) → Blank (past a (cut l))) → Blank (past a (cond c [] (b ∷ cut l)))
    go true e a h ih = none_left a
    go false e zero h ih = at_first false e h
    go false e (suc a) h ih = ih a h

-- the front of a line that is its cut is as long
pub cut_size : (line : List ℕ) (n : ℕ) → n ≤ length line → take n line ≡ cut line → length (cut line) ≡ n
cut_size line n h e = sym (ap length e) ∙ length-take-le n line h

-- Plain bytes
pub plain_of : (b : ℕ) → 32 ≤ b → b ≤ 126 → is_plain b ≡ true
plain_of b p q = all_of (leb 32 b) (leb b 126) (le-leb 32 b p) (le-leb b 126 q)

pub of_plain : (b : ℕ) → is_plain b ≡ true → (32 ≤ b) × (b ≤ 126)
of_plain b h = let u = both (leb 32 b) (leb b 126) h in (leb-true 32 b u.0, leb-true b 126 u.1)

pub plain_append : (s t : List ℕ) → are_plain s ≡ true → are_plain t ≡ true → are_plain (s ++ t) ≡ true
plain_append s t p q = every_on is_plain s t p q

pub plain_cut : (s : List ℕ) → are_plain s ≡ true → are_plain (cut s) ≡ true
unfolding cut
plain_cut [] p = refl
plain_cut (b ∷ s) p = go (is_blank (b ∷ s)) (both (is_plain b) (are_plain s) p) (plain_cut s)
  where
    go : (c : Bool) → (is_plain b ≡ true) × (are_plain s ≡ true) → (are_plain s ≡ true → are_plain (cut s) ≡ true)
        → are_plain (cond c [] (b ∷ cut s)) ≡ true
    go true u ih = refl
    go false u ih = every_cons is_plain b (cut s) u.0 (ih u.1)

pub plain_take : (n : ℕ) (s : List ℕ) → are_plain s ≡ true → are_plain (take n s) ≡ true
plain_take n s p = every_take is_plain n s p

pub plain_blanks : (n : ℕ) → are_plain (replicate n 32) ≡ true
plain_blanks n = every_replicate is_plain n 32 refl

pub plain_byte : (b : ℕ) (s : List ℕ) → 32 ≤ b → b ≤ 126 → are_plain s ≡ true → are_plain (b ∷ s) ≡ true
plain_byte b s p q h = every_cons is_plain b s (plain_of b p q) h

pub plain_at : (s : List ℕ) (i : ℕ) → are_plain s ≡ true → get_or s i 0 ≤ 126
plain_at [] i p = omega arith
plain_at (b ∷ s) zero p = (of_plain b (both (is_plain b) (are_plain s) p).0).1
plain_at (b ∷ s) (suc i) p = plain_at s i (both (is_plain b) (are_plain s) p).1

pub cut_line : (l c : List ℕ) → c ≡ cut l → Line l → Line c
cut_line l c e h = let k : length (cut l) ≤ length l = length_cut l in rw e (record { plain = plain_cut l h.plain; width = omega (arith, h.width) })

-- Filled with blanks
pub get_or_blanks : (l : List ℕ) (n i : ℕ) → get_or (l ++ replicate n 32) i 32 ≡ get_or l i 32
get_or_blanks [] zero i = refl
get_or_blanks [] (suc n) zero = refl
get_or_blanks [] (suc n) (suc i) = get_or_blanks [] n i
get_or_blanks (x ∷ l) n zero = refl
get_or_blanks (x ∷ l) n (suc i) = get_or_blanks l n i

pub length_filled : (n : ℕ) (l : List ℕ) → length (take n (l ++ replicate n 32)) ≡ n
length_filled n l = rw length-take (omega (arith, length-append l (replicate n 32), length-replicate {A = ℕ} n 32))

-- a line that is cut is cut already
blank_cut : (l : List ℕ) → is_blank (cut l) ≡ is_blank l
unfolding cut
blank_cut [] = refl
blank_cut (b ∷ l) = go (is_blank (b ∷ l)) refl (blank_cut l)
  where
    go : (c : Bool) → is_blank (b ∷ l) ≡ c → is_blank (cut l) ≡ is_blank l → is_blank (cond c [] (b ∷ cut l)) ≡ is_blank (b ∷ l)
    go true e ih = sym e
    go false e ih = rw ih

pub cut_cut : (l : List ℕ) → cut (cut l) ≡ cut l
unfolding cut
cut_cut [] = refl
cut_cut (b ∷ l) = go (is_blank (b ∷ l)) refl (cut_cut l)
  where
    go : (c : Bool) → is_blank (b ∷ l) ≡ c → cut (cut l) ≡ cut l → cut (cond c [] (b ∷ cut l)) ≡ cond c [] (b ∷ cut l)
    go true e ih = refl
    go false e ih =
        let f : (eqb b 32 && is_blank (cut l)) ≡ false = rw (blank_cut l) e in
        rw (f, ih)

-- x is among plain bytes
pub in_plain : (x : ℕ) (l : List ℕ) → is_in eqb x l ≡ true → are_plain l ≡ true → (32 ≤ x) × (x ≤ 126)
in_plain x [] h p = absurd (false≢true h)
in_plain x (y ∷ l) h p = go (eqb x y) refl h (both (is_plain y) (are_plain l) p) (in_plain x l)
  where
    go : (c : Bool) → eqb x y ≡ c → (c || is_in eqb x l) ≡ true → (is_plain y ≡ true) × (are_plain l ≡ true)
        → (is_in eqb x l ≡ true → are_plain l ≡ true → (32 ≤ x) × (x ≤ 126)) → (32 ≤ x) × (x ≤ 126)
    go true e k u ih = let v = of_plain y u.0 in let q : x ≡ y = eqb-true x y e in (omega (arith, v.0), omega (arith, v.1))
    go false e k u ih = ih k u.1

pub length_cols : (a b : ℕ) (l : List ℕ) → length (cols a b l) ≡ b + 1 - a
unfolding cols
length_cols a b l = length_filled (b + 1 - a) (drop (a - 1) l)

-- a cut line has no byte past the column from which on it is blank
pub cut_short : (l : List ℕ) (k : ℕ) → l ≡ cut l → Blank (past k l) → length l ≤ k
unfolding cut
cut_short [] k e h = omega arith
cut_short (b ∷ l) k e h = at (is_blank (b ∷ l)) refl k e h (cut_short l)
  where
    at : (c : Bool) → is_blank (b ∷ l) ≡ c → (k : ℕ) → b ∷ l ≡ cond c [] (b ∷ cut l) → Blank (past k (b ∷ l)) → ((k : ℕ) → l ≡ cut l → Blank (past k l) → length l ≤ k) → suc (length l) ≤ k
    at true q k e h ih = absurd (cons_nil b l e)
    at false q zero e h ih = absurd (false≢true (sym q ∙ h))
    at false q (suc k) e h ih = let i : length l ≤ k = ih k (cons_same e).1 h in omega arith

-- the columns of a long enough line are a part of it
pub cols_within : (a b : ℕ) (l : List ℕ) → 1 ≤ a → b ≤ length l → cols a b l ≡ take (b + 1 - a) (drop (a - 1) l)
unfolding cols
cols_within a b l p q = take-append-le (b + 1 - a) (drop (a - 1) l) (replicate (b + 1 - a) 32) (simp length-drop (omega arith))
