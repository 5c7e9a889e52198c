-- The codes of a list that are left to store, and the lists. Assumes nothing.
use Prim.Native.Nat.{ℕ, suc, ◌+◌, ◌-◌, ◌*◌, ◌≤◌, ◌<◌}
use mathlib.Core.Path.{◌≡◌}
use mathlib.Core.List.{List, [], ◌∷◌}
use native.Mathlib.Numerals.{add-one}
use native.Mathlib.Omega.{arith}
use lib.ListN.{length, get_or, take, drop, drop_of_length-le}
use lib.Seq.{sets, drop-cons}
use Rattle.fill_codes.specs.Codes.{codes_from}

-- the codes of a list that are left to store, up to place e
pub codes_next : (table : List ℕ) (i e : ℕ) → i < e → e ≤ length table → take (e - i) (drop i table) ≡ get_or table i 0 ∷ take (e - (i + 1)) (drop (i + 1) table)
codes_next table i e h k =
    let m : e - i ≡ suc (e - (i + 1)) = omega arith in
    let y : i < length table = omega arith in
    rw (m, add-one i, drop-cons table i 0 y)

pub codes_none : (table : List ℕ) (i e : ℕ) → e ≤ i → take (e - i) (drop i table) ≡ []
codes_none table i e h = let m : e - i ≡ 0 = omega arith in rw m

-- one list more
pub codes_more : (lengths table b x : List ℕ) (y : ℕ) → y < length lengths → x ≡ sets b (64 * y) (take (get_or lengths y 0) (drop (64 * y) table))
    → codes_from (64 * (y + 1)) (drop (y + 1) lengths) table x ≡ codes_from (64 * y) (drop y lengths) table b
unfolding codes_from
codes_more lengths table b x y h e =
    let q : 64 * (y + 1) ≡ 64 * y + 64 = omega arith in
    rw (e, q, add-one y, drop-cons lengths y 0 h)

pub codes_done : (lengths table b : List ℕ) (p y : ℕ) → length lengths ≤ y → codes_from p (drop y lengths) table b ≡ b
unfolding codes_from
codes_done lengths table b p y h = rw (drop_of_length-le lengths h)
