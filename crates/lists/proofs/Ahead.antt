-- Bytes that are put one behind the other: what stands, with the bytes that are ahead, ends as all of them put where they begin. Assumes nothing.
use Prim.Native.Nat.{ℕ, ◌+◌, ◌≤◌}
use mathlib.Core.Path.{◌≡◌, refl, sym, ap, ◌∙◌}
use mathlib.Core.List.{List, [], ◌++◌}
use native.Mathlib.Nat.{add-zero}
use native.Mathlib.Omega.{arith}
use lib.ListN.{length, length-append}
use lib.Seq.{sets}
use Rattle.lists.proofs.Stores.{then}

-- m with xs from j on is l with ys from i on, and they end at one place
pub record Ahead (m : List ℕ) (j : ℕ) (xs l : List ℕ) (i : ℕ) (ys : List ℕ) : Type 0 where
  pub bytes : sets m j xs ≡ sets l i ys
  pub end : j + length xs ≡ i + length ys

pub begun : (l : List ℕ) (i : ℕ) (ys : List ℕ) → Ahead l i ys l i ys
begun l i ys = record { bytes = refl; end = refl }

-- first these, and then those
pub upon : {m l o : List ℕ} {j i k : ℕ} {xs ys zs : List ℕ} → Ahead m j xs l i ys → Ahead l i ys o k zs → Ahead m j xs o k zs
upon a b = record { bytes = a.bytes ∙ b.bytes; end = a.end ∙ b.end }

-- the bytes that are ahead, written otherwise
pub seen : {m l : List ℕ} {j i : ℕ} {xs ys : List ℕ} (zs : List ℕ) → xs ≡ zs → Ahead m j xs l i ys → Ahead m j zs l i ys
seen {m} {l} {j} {i} {xs} {ys} zs e a = record { bytes = ap (λ (x : List ℕ). sets m j x) (sym e) ∙ a.bytes; end = ap (λ (x : List ℕ). j + length x) (sym e) ∙ a.end }

module _ (m l : List ℕ) (j i : ℕ) (ws xs zs ys : List ℕ) (e : ws ≡ xs ++ zs) (a : Ahead m j ws l i ys) where
  -- the first of them are put
  pub some_put : (o : List ℕ) (k : ℕ) → o ≡ sets m j xs → k ≡ j + length xs → Ahead o k zs l i ys
  some_put o k f g =
      record {
        bytes = then m o j k xs zs f (sym g) ∙ (ap (λ (x : List ℕ). sets m j x) (sym e) ∙ a.bytes);
        end = omega (arith, g, a.end, ap length e, length-append xs zs);
      }

  -- there is room for them
  pub some_room : j + length xs ≤ i + length ys
  some_room = omega (arith, a.end, ap length e, length-append xs zs)

-- none are left
pub all_put : (m l : List ℕ) (j i : ℕ) (xs ys : List ℕ) → xs ≡ [] → Ahead m j xs l i ys → (m ≡ sets l i ys) × (j ≡ i + length ys)
all_put m l j i xs ys e a = let b = seen [] e a in (b.bytes, sym (add-zero j) ∙ b.end)
