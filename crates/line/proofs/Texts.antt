-- A text is its lines, where each has its LF. Assumes nothing.
use Prim.Native.Nat.{ℕ}
use mathlib.Core.Path.{◌≡◌, refl, ap, sym, ◌∙◌}
use mathlib.Core.Bool.{Bool, true, false, cond}
use mathlib.Core.List.{List, [], ◌∷◌, ◌++◌, map, append_assoc}
use native.Mathlib.Omega.{arith}
use lib.Dec.{eqb}
use borrow.Author.Tests.{eqb-true, ne_eqb}
use Rattle.lists.specs.Lists.{All}
use Rattle.lists.proofs.Bools.{never, both}
use Rattle.lists.proofs.Lists.{cons_same, cons_nil}
use Rattle.line.specs.Text.{text, is_plain, are_plain, Line, Raw, raw, onto, split}
use Rattle.line.proofs.Columns.{of_plain}

abbrev make : List ℕ → Bool → Raw
make l b = record { bytes = l; ended = b }

on_line : (b : ℕ) (bs : List ℕ) (rs : List Raw) (ls : List (List ℕ)) → split bs ≡ rs → onto b rs ≡ map raw ls
    → ((ks : List (List ℕ)) → split bs ≡ map raw ks → bs ≡ text ks) → b ∷ bs ≡ text ls
unfolding onto
on_line b bs [] [] e h ih = absurd (cons_nil _ _ h)
on_line b bs [] (k ∷ ls) e h ih = absurd (never (ap (λ (w : Raw). w.ended) (cons_same h).0))
on_line b bs (r ∷ rs) [] e h ih = absurd (cons_nil _ _ h)
on_line b bs (r ∷ rs) (k ∷ ls) e h ih =
    let p = cons_same h in
    let x : b ∷ r.bytes ≡ k = ap (λ (w : Raw). w.bytes) p.0 in
    let y : r.ended ≡ true = ap (λ (w : Raw). w.ended) p.0 in
    let t : r ≡ raw r.bytes = ap (make r.bytes) y in
    rw (← x) (ap (λ (x : List ℕ). b ∷ x) (ih (r.bytes ∷ ls) (e ∙ cc (t, p.1))))

pub text_of : (t : List ℕ) (ls : List (List ℕ)) → split t ≡ map raw ls → t ≡ text ls
unfolding split
text_of [] [] h = refl
text_of [] (l ∷ ls) h = absurd (cons_nil _ _ (sym h))
text_of (b ∷ bs) ls h = go (eqb b 10) ls refl h (text_of bs)
  where
    go : (c : Bool) (ls : List (List ℕ)) → eqb b 10 ≡ c → cond c (raw [] ∷ split bs) (onto b (split bs)) ≡ map raw ls
        → ((ks : List (List ℕ)) → split bs ≡ map raw ks → bs ≡ text ks) → b ∷ bs ≡ text ls
    go true [] e h ih = absurd (cons_nil _ _ h)
    go true (k ∷ ls) e h ih =
        let p = cons_same h in
        let x : [] ≡ k = ap (λ (w : Raw). w.bytes) p.0 in
        rw (eqb-true b 10 e, ← x) (ap (λ (x : List ℕ). 10 ∷ x) (ih ls p.1))
    go false ls e h ih = on_line b bs (split bs) ls refl h ih

pub split_line : (l t : List ℕ) → are_plain l ≡ true → split (l ++ (10 ∷ t)) ≡ raw l ∷ split t
unfolding split onto
split_line [] t h = refl
split_line (b ∷ l) t h =
    let p = both (is_plain b) (are_plain l) h in
    let lo = of_plain b p.0 in
    rw (ne_eqb b 10 (λ e. omega arith), split_line l t p.1)

pub split_text : (ls : List (List ℕ)) → All Line ls → split (text ls) ≡ map raw ls
unfolding split
split_text [] p = refl
split_text (l ∷ ls) p = split_line l (text ls) p.0.plain ∙ ap (λ (x : List Raw). raw l ∷ x) (split_text ls p.1)

-- the text of some lines and more
pub text_append : (a b : List (List ℕ)) → text (a ++ b) ≡ text a ++ text b
text_append [] b = refl
text_append (l ∷ a) b = ap (λ (x : List ℕ). l ++ (10 ∷ x)) (text_append a b) ∙ sym (append_assoc l (10 ∷ text a) (text b))

pub raws_one : (a b : List (List ℕ)) → map raw a ≡ map raw b → a ≡ b
raws_one [] [] e = refl
raws_one [] (l ∷ b) e = absurd (cons_nil _ _ (sym e))
raws_one (l ∷ a) [] e = absurd (cons_nil _ _ e)
raws_one (l ∷ a) (k ∷ b) e =
    let p = cons_same e in
    let x : l ≡ k = ap (λ (w : Raw). w.bytes) p.0 in
    cc (raws_one a b p.1)

-- a text has its lines in one way
pub lines_one : (ls ks : List (List ℕ)) → All Line ls → All Line ks → text ls ≡ text ks → ls ≡ ks
lines_one ls ks p q e = raws_one ls ks (sym (split_text ls p) ∙ (ap split e ∙ split_text ks q))
