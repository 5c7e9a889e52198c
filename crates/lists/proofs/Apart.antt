-- What stores in a list leave in its parts: their own part holds what was stored, the others stay as they were. Assumes nothing.
use Prim.Native.Nat.{ℕ, suc, ◌+◌, ◌-◌, ◌≤◌, ◌<◌, zero}
use mathlib.Core.Path.{◌≡◌, refl, ap, ◌∙◌}
use mathlib.Core.List.{List, [], ◌∷◌, ◌++◌, append_assoc}
use native.Mathlib.Omega.{arith}
use lib.ListN.{length, take, drop, set, get_or}
use lib.Seq.{sets, sets-eq, drop-set-lt, drop-set-add, take-set-le, take_at, drop_at, length-take-le, length-sets, get_or-set_same, get_or-set_other}

module _ {A : Type 0} where
  -- a store before a part, and one behind it
  store_before : (l : List A) (i j : ℕ) (x : A) → i < j → drop j (set l i x) ≡ drop j l
  store_before l i j x h = drop-set-lt j l i x h

  store_behind : (l : List A) (i j n : ℕ) (x : A) → j + n ≤ i → take n (drop j (set l i x)) ≡ take n (drop j l)
  store_behind l i j n x h =
      let e : j + (i - j) ≡ i = omega arith in
      let p : drop j (set l (j + (i - j)) x) ≡ set (drop j l) (i - j) x = drop-set-add j l (i - j) x in
      let q : drop j (set l i x) ≡ set (drop j l) (i - j) x = rw e at p in
      rw q (take-set-le n (drop j l) (i - j) x (omega arith))

  -- some stores, one after the other
  pub stores_before : (l : List A) (i j n : ℕ) (xs : List A) → i + length xs ≤ j → take n (drop j (sets l i xs)) ≡ take n (drop j l)
  stores_before l i j n [] h = refl
  stores_before l i j n (x ∷ xs) h =
      stores_before (set l i x) (suc i) j n xs (omega arith) ∙ ap (λ (r : List A). take n r) (store_before l i j x (omega arith))

  pub stores_behind : (l : List A) (i j n : ℕ) (xs : List A) → j + n ≤ i → take n (drop j (sets l i xs)) ≡ take n (drop j l)
  stores_behind l i j n [] h = refl
  stores_behind l i j n (x ∷ xs) h = stores_behind (set l i x) (suc i) j n xs (omega arith) ∙ store_behind l i j n x h

  -- the part where they were made
  pub stores_there : (l : List A) (i : ℕ) (xs : List A) → i + length xs ≤ length l → take (length xs) (drop i (sets l i xs)) ≡ xs
  stores_there l i xs h =
      let e : drop i (sets l i xs) ≡ xs ++ drop (i + length xs) l =
      ap (λ (r : List A). drop i r) (sets-eq xs l i h ∙ append_assoc (take i l) xs (drop (i + length xs) l))
      ∙ drop_at (take i l) (xs ++ drop (i + length xs) l) i (length-take-le i l (omega arith)) in
      ap (λ (r : List A). take (length xs) r) e ∙ take_at xs (drop (i + length xs) l) (length xs) refl

  -- entry by entry: before what was stored, behind it, and in it
  pub sets_below : (vs l : List A) (i j : ℕ) (d : A) → j < i → get_or (sets l i vs) j d ≡ get_or l j d
  sets_below [] l i j d h = refl
  sets_below (a ∷ vs) l i j d h = sets_below vs (set l i a) (suc i) j d (omega arith) ∙ get_or-set_other l i j a d (λ e. omega (arith, e))

  pub sets_behind : (vs l : List A) (i j : ℕ) (d : A) → i + length vs ≤ j → get_or (sets l i vs) j d ≡ get_or l j d
  sets_behind [] l i j d h = refl
  sets_behind (a ∷ vs) l i j d h = sets_behind vs (set l i a) (suc i) j d (omega arith) ∙ get_or-set_other l i j a d (λ e. omega (arith, e))

  pub sets_in : (vs l : List A) (i k : ℕ) (d : A) → k < length vs → i + length vs ≤ length l → get_or (sets l i vs) (i + k) d ≡ get_or vs k d
  sets_in [] l i k d h m = absurd (omega arith)
  sets_in (a ∷ vs) l i zero d h m =
      let e : i + 0 ≡ i = omega arith in
      rw e (sets_below vs (set l i a) (suc i) i d (omega arith) ∙ get_or-set_same l i a d (omega arith))
  sets_in (a ∷ vs) l i (suc k) d h m =
      let e : i + suc k ≡ suc i + k = omega arith in
      let n : length (set l i a) ≡ length l = length-sets l i (a ∷ []) in
      rw e (sets_in vs (set l i a) (suc i) k d (omega arith) (omega arith))
