-- A header line as it is put: its label behind 60 blanks, and its body onto these. Assumes nothing.
use Prim.Native.Nat.{ℕ, zero, suc, ◌+◌, ◌≤◌, ◌<◌}
use mathlib.Core.Path.{◌≡◌, refl, sym, ap, ◌∙◌}
use mathlib.Core.List.{List, [], ◌∷◌, ◌++◌}
use native.Mathlib.Omega.{arith}
use lib.ListN.{length, take, set, length-set}
use lib.Seq.{sets, set-append_left}
use Rattle.lists.specs.Blank.{blanks}
use Rattle.lists.proofs.Stores.{sets_part, sets_all}

-- a text put onto blanks, and onto the front of a list
sets_cons : (l vs : List ℕ) (i x : ℕ) → sets (x ∷ l) (suc i) vs ≡ x ∷ sets l i vs
sets_cons l [] i x = refl
sets_cons l (v ∷ vs) i x = sets_cons (set l i v) vs (suc i) x

take_blanks : (n m : ℕ) → n ≤ m → blanks n ≡ take n (blanks m)
take_blanks zero m h = refl
take_blanks (suc n) zero h = absurd (omega arith)
take_blanks (suc n) (suc m) h = ap (λ (x : List ℕ). 32 ∷ x) (take_blanks n m (omega arith))

on_blanks : (n m : ℕ) (xs : List ℕ) → length xs ≤ n → n ≤ m → sets (blanks n) 0 xs ≡ take n (xs ++ blanks m)
on_blanks n m [] h k = take_blanks n m k
on_blanks zero m (x ∷ xs) h k = absurd (omega arith)
on_blanks (suc n) m (x ∷ xs) h k = sets_cons (blanks n) xs 0 x ∙ ap (λ (y : List ℕ). x ∷ y) (on_blanks n m xs (omega arith) (omega arith))

on_front : (p q xs : List ℕ) (i : ℕ) → i + length xs ≤ length p → sets (p ++ q) i xs ≡ sets p i xs ++ q
on_front p q [] i h = refl
on_front p q (x ∷ xs) i h =
    let n : i < length p = omega arith in
    ap (λ (l : List ℕ). sets l (suc i) xs) (set-append_left p q i x n) ∙ on_front (set p i x) q xs (suc i) (omega (arith, length-set p i x))

-- a label behind 60 blanks, and a body put onto these
on_label : (body l : List ℕ) → length body ≤ 60 → sets (blanks 60 ++ l) 0 body ≡ take 60 (body ++ blanks 60) ++ l
on_label body l h = on_front (blanks 60) l body 0 (omega arith) ∙ ap (λ (x : List ℕ). x ++ l) (on_blanks 60 60 body h (omega arith))

pub label_put : (l m out label : List ℕ) → length l ≡ 80 → length label ≤ 20 → m ≡ sets l 0 (blanks 80) → out ≡ sets m 60 label
    → out ≡ blanks 60 ++ take 20 (label ++ blanks 20)
label_put l m out label n k e f =
    f ∙ (ap (λ (x : List ℕ). sets x 60 label) (e ∙ sets_all l (blanks 80) (sym n))
    ∙ (sym (sets_part (blanks 80) 60 0 label) ∙ ap (λ (x : List ℕ). blanks 60 ++ x) (on_blanks 20 20 label k (omega arith))))

-- a header line: the label, and then the body
pub line_put_lem : (l out body label : List ℕ) → l ≡ blanks 60 ++ label → out ≡ sets l 0 body → length body ≤ 60 → out ≡ take 60 (body ++ blanks 60) ++ label
line_put_lem l out body label e f h = f ∙ (ap (λ (x : List ℕ). sets x 0 body) e ∙ on_label body label h)
