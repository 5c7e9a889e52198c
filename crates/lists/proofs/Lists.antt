-- Laws of lists. Assumes nothing.
use Prim.Native.Nat.{ℕ, zero, suc, ◌<◌}
use mathlib.Core.Path.{◌≡◌, refl, ap, sym, ◌∙◌}
use mathlib.Core.Bool.{true, false, ◌&&◌, and-false, Bool, ◌||◌}
use mathlib.Core.List.{List, [], ◌∷◌, ◌++◌, map, append_assoc}
use native.Mathlib.Omega.{arith}
use lib.Dec.{eqb}
use lib.ListN.{length, get_or}
use borrow.Author.Tests.{eqb-true, eq-eqb}
use Rattle.std.specs.Cmp.Lexicographic.{pointwise}
use Rattle.lists.specs.Lists.{All, Each, joined, same, is_in}
use Rattle.lists.proofs.Bools.{never, both, or_false, or_assoc}

-- equal bytes
pub same_true : (s t : List ℕ) → same s t ≡ true → s ≡ t
same_true [] [] e = refl
same_true [] (y ∷ t) e = absurd (never e)
same_true (x ∷ s) [] e = absurd (never e)
same_true (x ∷ s) (y ∷ t) e = let p = both (eqb x y) (same s t) e in cc (eqb-true x y p.0, same_true s t p.1)

pub same_refl : (s : List ℕ) → same s s ≡ true
same_refl [] = refl
same_refl (x ∷ s) = rw (eq-eqb x x refl) (same_refl s)

pub eq_same : (s t : List ℕ) → s ≡ t → same s t ≡ true
eq_same s t e = rw e (same_refl t)

-- lists
module _ {A : Type 0} where
  pub cons_same : {x y : A} {xs ys : List A} → x ∷ xs ≡ y ∷ ys → (x ≡ y) × (xs ≡ ys)
  cons_same e = (cc, cc)

  pub cons_nil : (x : A) (xs : List A) → x ∷ xs ≡ [] → ⊥
  cons_nil x xs e = let z : ◌≡◌ {A = ℕ} 0 1 = cc in omega arith

  pub append_one : (a b x y : List A) → length a ≡ length b → a ++ x ≡ b ++ y → (a ≡ b) × (x ≡ y)
  append_one [] [] x y l e = (refl, e)
  append_one [] (d ∷ b) x y l e = absurd (omega arith)
  append_one (c ∷ a) [] x y l e = absurd (omega arith)
  append_one (c ∷ a) (d ∷ b) x y l e =
      let p = cons_same e in
      let q = append_one a b x y (omega arith) p.1 in
      (cc (p.0, q.0), q.1)

  pub all_on : (P : A → Type 0) (xs ys : List A) → All P (xs ++ ys) → All P xs × All P ys
  all_on P [] ys a = (tt, a)
  all_on P (x ∷ xs) ys a = let i = all_on P xs ys a.1 in ((a.0, i.0), i.1)

  pub on_all : (P : A → Type 0) (xs ys : List A) → All P xs → All P ys → All P (xs ++ ys)
  on_all P [] ys a b = b
  on_all P (x ∷ xs) ys a b = (a.0, on_all P xs ys a.1 b)

  pub joined_append : (xs ys : List (List A)) → joined (xs ++ ys) ≡ joined xs ++ joined ys
  joined_append [] ys = refl
  joined_append (x ∷ xs) ys = rw (joined_append xs ys) (sym (append_assoc x (joined xs) (joined ys)))

  pub all_at : (P : A → Type 0) (d : A) (xs : List A) (i : ℕ) → All P xs → i < length xs → P (get_or xs i d)
  all_at P d [] i a h = absurd (omega arith)
  all_at P d (x ∷ xs) zero a h = a.0
  all_at P d (x ∷ xs) (suc i) a h = all_at P d xs i a.1 (omega arith)

module _ {A B : Type 0} (f : A → B) where
  pub map_append : (xs ys : List A) → map f (xs ++ ys) ≡ map f xs ++ map f ys
  map_append [] ys = refl
  map_append (x ∷ xs) ys = ap (λ (r : List B). f x ∷ r) (map_append xs ys)

module _ {A B : Type 0} (R : A → B → Type 0) where
  pub each_length : (xs : List A) (ys : List B) → Each R xs ys → length xs ≡ length ys
  each_length [] [] h = refl
  each_length [] (y ∷ ys) h = absurd h
  each_length (x ∷ xs) [] h = absurd h
  each_length (x ∷ xs) (y ∷ ys) h = ap suc (each_length xs ys h.1)

  pub on_each : (xs xs' : List A) (ys ys' : List B) → Each R xs ys → Each R xs' ys' → Each R (xs ++ xs') (ys ++ ys')
  on_each [] xs' [] ys' p q = q
  on_each [] xs' (y ∷ ys) ys' p q = absurd p
  on_each (x ∷ xs) xs' [] ys' p q = absurd p
  on_each (x ∷ xs) xs' (y ∷ ys) ys' p q = (p.0, on_each xs xs' ys ys' p.1 q)

  pub each_one : ((x : A) (y z : B) → R x y → R x z → y ≡ z) → (xs : List A) (ys zs : List B) → Each R xs ys → Each R xs zs → ys ≡ zs
  each_one f [] [] [] g h = refl
  each_one f [] [] (z ∷ zs) g h = absurd h
  each_one f [] (y ∷ ys) zs g h = absurd g
  each_one f (x ∷ xs) [] zs g h = absurd g
  each_one f (x ∷ xs) (y ∷ ys) [] g h = absurd h
  each_one f (x ∷ xs) (y ∷ ys) (z ∷ zs) g h = cc (f x y z g.0 h.0, each_one f xs ys zs g.1 h.1)

-- lists of other lengths are not the same
pub same_length : (s t : List ℕ) → (length s ≡ length t → ⊥) → same s t ≡ false
same_length [] [] h = absurd (h refl)
same_length [] (y ∷ t) h = refl
same_length (x ∷ s) [] h = refl
same_length (x ∷ s) (y ∷ t) h = rw (same_length s t (λ e. h (ap suc e))) (and-false (eqb x y))

-- the library's `==` of two slices is this one
pub same_equal : (s t : List ℕ) → pointwise eqb s t ≡ same s t
same_equal [] [] = refl
same_equal [] (y ∷ t) = refl
same_equal (x ∷ s) [] = refl
same_equal (x ∷ s) (y ∷ t) = ap (λ (b : Bool). eqb x y && b) (same_equal s t)

-- in one list behind another, and in one with one element more
pub in_append : (x : ℕ) (l m : List ℕ) → is_in eqb x (l ++ m) ≡ (is_in eqb x l || is_in eqb x m)
in_append x [] m = refl
in_append x (z ∷ l) m = ap (λ (b : Bool). eqb x z || b) (in_append x l m) ∙ sym (or_assoc (eqb x z) (is_in eqb x l) (is_in eqb x m))

pub in_more : (x y : ℕ) (l : List ℕ) → is_in eqb x (l ++ (y ∷ [])) ≡ (is_in eqb x l || eqb x y)
in_more x y l = in_append x l (y ∷ []) ∙ ap (λ (b : Bool). is_in eqb x l || b) (or_false (eqb x y))
