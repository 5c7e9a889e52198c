-- Texts stored in a list: `sets l i vs` is l with vs stored from place i on (`lib.Seq`). Assumes nothing.
use Prim.Native.Nat.{ℕ, zero, suc, ◌+◌, ◌-◌, ◌≤◌, ◌<◌}
use mathlib.Core.Path.{◌≡◌, refl, sym, ap, ◌∙◌}
use mathlib.Core.Logic.{◌≢◌}
use mathlib.Core.List.{List, [], ◌∷◌, ◌++◌, map, append-nil, append_assoc}
use native.Mathlib.Nat.{add-zero, add-suc}
use native.Mathlib.Numerals.{add-one}
use native.Mathlib.Omega.{arith}
use lib.ListN.{length, take, drop, set, length-append, length-drop, take-append-drop, drop_of_length-le}
use lib.Seq.{sets, sets-eq, length-take-le, drop_at, drop-drop, set_comm, take-set-le, drop-set-add}
use Rattle.lists.proofs.Parts.{next, to_end}

-- a store, seen through a function
pub map_set : {A B : Type 0} (f : A → B) (l : List A) (i : ℕ) (x : A) → map f (set l i x) ≡ set (map f l) i (f x)
map_set f [] i x = refl
map_set f (y ∷ l) zero x = refl
map_set {B = B} f (y ∷ l) (suc i) x = ap (λ (r : List B). f y ∷ r) (map_set f l i x)

-- two texts, one after the other
pub sets_append : {A : Type 0} (l : List A) (i : ℕ) (xs ys : List A) → sets (sets l i xs) (i + length xs) ys ≡ sets l i (xs ++ ys)
sets_append l i [] ys = rw add-zero
sets_append l i (x ∷ xs) ys =
    let e : i + suc (length xs) ≡ suc i + length xs = omega arith in
    rw e (sets_append (set l i x) (suc i) xs ys)

-- ONE STORE MORE of a run of stores: what is left to store began with what is stored
pub store_more : {A : Type 0} (l m : List A) (x : A) (xs ys : List A) (j k : ℕ) → m ≡ set l j x → k ≡ j + 1 → ys ≡ x ∷ xs → sets m k xs ≡ sets l j ys
store_more l m x xs ys j k e q p = let f : k ≡ suc j = q ∙ add-one j in rw (e, f, p)

-- and none
pub store_none : {A : Type 0} (l xs : List A) (j : ℕ) → xs ≡ [] → sets l j xs ≡ l
store_none l xs j e = rw e

-- one text, to place j, and the next
pub then : (l m : List ℕ) (i j : ℕ) (xs ys : List ℕ) → m ≡ sets l i xs → i + length xs ≡ j → sets m j ys ≡ sets l i (xs ++ ys)
then l m i j xs ys e k = ap (λ (x : List ℕ). sets x j ys) e ∙ (ap (λ (n : ℕ). sets (sets l i xs) n ys) (sym k) ∙ sets_append l i xs ys)

-- a text in the part from a on, put back behind what stands before it
pub sets_part : (l : List ℕ) (a i : ℕ) (vs : List ℕ) → take a l ++ sets (drop a l) i vs ≡ sets l (a + i) vs
sets_part l a i [] = take-append-drop a l
sets_part l a i (v ∷ vs) =
    let h : a ≤ a + i = omega arith in
    rw (← add-suc a i, ← drop-set-add a l i v, ← take-set-le a l (a + i) v h) (sets_part (set l (a + i) v) a (suc i) vs)

-- THE FRAME: what a callee that was lent `&mut l[a..]` stored there from its start on, it stored in l from a on
pub lent_back : (l ys : List ℕ) (a : ℕ) (vs : List ℕ) → ys ≡ sets (take (length l - a) (drop a l)) 0 vs
    → take a l ++ (ys ++ drop (length l - a) (drop a l)) ≡ sets l a vs
lent_back l ys a vs e =
    let h : length (drop a l) ≤ length l - a = omega (arith, length-drop a l) in
    let z : drop (length l - a) (drop a l) ≡ [] = drop_of_length-le (drop a l) h in
    rw (z, append-nil, e, to_end, sets_part, add-zero)

-- THE FRAME: the part of n places from a on, lent and back as ys
pub part_back : (l ys : List ℕ) (a n : ℕ) → a + n ≤ length l → length ys ≡ n → take a l ++ (ys ++ drop n (drop a l)) ≡ sets l a ys
part_back l ys a n h k =
    ap (λ (x : List ℕ). take a l ++ (ys ++ x)) (drop-drop n a l ∙ ap (λ (j : ℕ). drop (a + j) l) (sym k))
    ∙ (sym (append_assoc (take a l) ys (drop (a + length ys) l)) ∙ sym (sets-eq ys l a (omega arith)))

-- a store past a text may come before it
sets_later : (l : List ℕ) (i j v : ℕ) (vs : List ℕ) → i + length vs ≤ j → sets (set l j v) i vs ≡ set (sets l i vs) j v
sets_later l i j v [] h = refl
sets_later l i j v (x ∷ vs) h =
    let ne : j ≢ i = omega arith in
    let h' : suc i + length vs ≤ j = omega arith in
    rw (set_comm l j i v x ne) (sets_later (set l i x) (suc i) j v vs h')

-- a text and one byte behind it, that byte stored first
pub sets_snoc : (l vs : List ℕ) (i x : ℕ) → length vs ≡ i → sets (set l i x) 0 vs ≡ sets l 0 (vs ++ (x ∷ []))
sets_snoc l vs i x n =
    let e : 0 + length vs ≡ i = omega arith in
    sets_later l 0 i x vs (omega arith) ∙ (ap (λ (k : ℕ). set (sets l 0 vs) k x) (sym e) ∙ sets_append l 0 vs (x ∷ []))

-- a text as long as the list
pub sets_all : (l vs : List ℕ) → length vs ≡ length l → sets l 0 vs ≡ vs
sets_all l vs n =
    let e : drop (0 + length vs) l ≡ [] = drop_of_length-le l {i = 0 + length vs} (omega arith) in
    sets-eq vs l 0 (omega arith) ∙ (ap (λ (r : List ℕ). vs ++ r) e ∙ append-nil vs)

-- what stands from a store on
pub drop_set : (l : List ℕ) (j x : ℕ) → j < length l → drop j (set l j x) ≡ x ∷ drop (j + 1) l
drop_set l j x h =
    let e : j + 0 ≡ j = omega arith in
    let p : drop j (set l j x) ≡ set (drop j l) 0 x = rw e at (drop-set-add j l 0 x) in
    p ∙ rw (next l j h)

-- what stands from a on, after `&mut l[a..]` was lent and is back as ys
pub drop_lent : (l ys : List ℕ) (a : ℕ) → a ≤ length l → drop a (take a l ++ (ys ++ drop (length l - a) (drop a l))) ≡ ys
drop_lent l ys a h =
    let k : length (drop a l) ≤ length l - a = omega (arith, length-drop a l) in
    let z : drop (length l - a) (drop a l) ≡ [] = drop_of_length-le (drop a l) k in
    drop_at (take a l) (ys ++ drop (length l - a) (drop a l)) a (length-take-le a l h) ∙ (ap (λ (r : List ℕ). ys ++ r) z ∙ append-nil ys)

pub length_lent : (l ys : List ℕ) (a : ℕ) → a ≤ length l → length ys ≡ length l - a → length (take a l ++ (ys ++ drop (length l - a) (drop a l))) ≡ length l
length_lent l ys a h n =
    length-append (take a l) (ys ++ drop (length l - a) (drop a l))
    ∙ omega (arith, length-take-le a l h, length-append ys (drop (length l - a) (drop a l)), length-drop a l, length-drop (length l - a) (drop a l))
