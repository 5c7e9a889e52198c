-- Lines that are put one after the other: what stands, with the lines that are ahead, ends as all of them put where they begin. Assumes nothing.
use Prim.Native.Nat.{ℕ, ◌+◌, ◌<◌}
use mathlib.Core.Path.{◌≡◌, refl, sym, ap, ◌∙◌}
use mathlib.Core.List.{List, [], ◌∷◌, ◌++◌}
use native.Mathlib.Omega.{arith}
use lib.ListN.{length, length-append}
use lib.Seq.{sets}
use Rattle.lists.proofs.Ahead as bytes
use Rattle.line.specs.Text.{text}
use Rattle.line.proofs.Texts.{text_append}

-- m with the lines ls from j on is l with the lines ks from i on, and they end at one place
pub record Ahead (m : List ℕ) (j : ℕ) (ls : List (List ℕ)) (l : List ℕ) (i : ℕ) (ks : List (List ℕ)) : Type 0 where
  pub put : bytes.Ahead m j (text ls) l i (text ks)

pub begun : (l : List ℕ) (i : ℕ) (ks : List (List ℕ)) → Ahead l i ks l i ks
begun l i ks = record { put = bytes.begun l i (text ks) }

-- first these, and then those
pub upon : {m l o : List ℕ} {j i k : ℕ} {ls ks ns : List (List ℕ)} → Ahead m j ls l i ks → Ahead l i ks o k ns → Ahead m j ls o k ns
upon a b = record { put = bytes.upon a.put b.put }

-- as the list of lines is written
pub seen : {m l : List ℕ} {j i : ℕ} {ls ks : List (List ℕ)} (ns : List (List ℕ)) → ls ≡ ns → Ahead m j ls l i ks → Ahead m j ns l i ks
seen ns e a = record { put = bytes.seen (text ns) (ap text e) a.put }

module _ (m l : List ℕ) (j i : ℕ) (ks : List (List ℕ)) where
  -- some lines are put
  pub some_put : (xs ys : List (List ℕ)) (o : List ℕ) (k : ℕ) → o ≡ sets m j (text xs) → k ≡ j + length (text xs) → Ahead m j (xs ++ ys) l i ks → Ahead o k ys l i ks
  some_put xs ys o k e f a = record { put = bytes.some_put m l j i (text (xs ++ ys)) (text xs) (text ys) (text ks) (text_append xs ys) a.put o k e f }

  -- one line, with its LF
  pub one_put : (x : List ℕ) (ys : List (List ℕ)) (o : List ℕ) (k : ℕ) → o ≡ sets m j (x ++ (10 ∷ [])) → k ≡ j + (length x + 1) → Ahead m j (x ∷ ys) l i ks → Ahead o k ys l i ks
  one_put x ys o k e f a = some_put (x ∷ []) ys o k e (f ∙ ap (λ (n : ℕ). j + n) (sym (length-append x (10 ∷ [])))) a

  -- there is room for them
  pub some_room : (xs ys : List (List ℕ)) (top : ℕ) → i + length (text ks) < top → Ahead m j (xs ++ ys) l i ks → j + length (text xs) < top
  some_room xs ys top h a = omega (arith, bytes.some_room m l j i (text (xs ++ ys)) (text xs) (text ys) (text ks) (text_append xs ys) a.put)

  pub one_room : (x : List ℕ) (ys : List (List ℕ)) (top : ℕ) → i + length (text ks) < top → Ahead m j (x ∷ ys) l i ks → j + (length x + 1) < top
  one_room x ys top h a = omega (arith, some_room (x ∷ []) ys top h a, length-append x (10 ∷ []))

  -- none are left
  pub all_put : Ahead m j [] l i ks → (m ≡ sets l i (text ks)) × (j ≡ i + length (text ks))
  all_put a = bytes.all_put m l j i [] (text ks) refl a.put
