-- A line with its LF: the last byte of a run of stores, and a line in a lent part. Assumes nothing.
use Prim.Native.Nat.{ℕ, ◌+◌, ◌-◌, ◌≤◌}
use mathlib.Core.Path.{◌≡◌, sym, ap, ◌∙◌}
use mathlib.Core.List.{List, [], ◌∷◌, ◌++◌}
use native.Mathlib.Omega.{arith}
use lib.ListN.{length, take, drop, set, length-append, drop_of_length-le}
use lib.Seq.{sets}
use Rattle.lists.proofs.Stores.{sets_all, part_back}

-- a line that is stored, and a byte behind it
pub line_done : (line b x : List ℕ) (i j v : ℕ) → length line ≤ i → x ≡ set b j v → x ≡ sets b j (drop i line ++ (v ∷ []))
line_done line b x i j v h e = rw (e, drop_of_length-le line {i = i} h)

-- a line and its LF in a list one longer
pub copy_done : (line o out : List ℕ) (i n : ℕ) → n ≡ i → length line ≤ i → length o ≡ length line + 1
    → sets out i (drop i line ++ (10 ∷ [])) ≡ sets o 0 (line ++ (10 ∷ [])) → set out n 10 ≡ line ++ (10 ∷ [])
copy_done line o out i n q h k e =
    line_done line out (set out n 10) i i 10 h (ap (λ (j : ℕ). set out j 10) q)
    ∙ (e ∙ sets_all o (line ++ (10 ∷ [])) (length-append line (10 ∷ []) ∙ sym k))

-- a line with its LF, copied into the part that it fills
pub line_back : (out ys line : List ℕ) (at n : ℕ) → at + (n + 1) ≤ length out → length line ≡ n → ys ≡ line ++ (10 ∷ [])
    → take at out ++ (ys ++ drop (at + (n + 1) - at) (drop at out)) ≡ sets out at (line ++ (10 ∷ []))
line_back out ys line at n h k e =
    let m : length ys ≡ at + (n + 1) - at = ap length e ∙ (length-append line (10 ∷ []) ∙ omega arith) in
    part_back out ys at (at + (n + 1) - at) (omega arith) m ∙ ap (λ (x : List ℕ). sets out at x) e
