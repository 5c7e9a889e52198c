-- Parts of a list, as a loop that counts up and a lent part have them. Assumes nothing.
use Prim.Native.Nat.{ℕ, ◌+◌, ◌-◌, ◌<◌, zero, suc, ◌≤◌}
use mathlib.Core.Path.{◌≡◌, refl}
use mathlib.Core.List.{List, [], ◌∷◌}
use native.Mathlib.Numerals.{add-one}
use native.Mathlib.Omega.{arith}
use lib.ListN.{length, take, drop, get_or, length-drop}
use lib.Seq.{take_all, drop-cons}

-- `&s[i..]`, as the borrow checker has it
pub to_end : (s : List ℕ) (i : ℕ) → take (length s - i) (drop i s) ≡ drop i s
to_end s i = take_all (length s - i) (drop i s) (simp length-drop (omega arith))

-- what is left begins with its first element
pub next : (s : List ℕ) (i : ℕ) → i < length s → drop i s ≡ get_or s i 0 ∷ drop (i + 1) s
next s i h = rw (add-one, drop-cons s i 0)

pub empty : (s : List ℕ) → length s ≡ 0 → s ≡ []
empty [] h = refl
empty (x ∷ s) h = absurd (omega arith)

-- past the end stands the default
pub get_d_over : {A : Type 0} (xs : List A) (i : ℕ) (d : A) → length xs ≤ i → get_or xs i d ≡ d
get_d_over [] i d h = refl
get_d_over (x ∷ xs) zero d h = absurd (omega arith)
get_d_over (x ∷ xs) (suc i) d h = get_d_over xs i d (omega arith)
