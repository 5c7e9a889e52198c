-- A whole number over a whole number, each held exactly, is the nearest float to the fraction. Assumes nothing.
use Prim.Native.Nat.{ℕ, suc, ◌*◌, ◌^◌, ◌<◌}
use mathlib.Core.Path.{◌≡◌, refl, ap, ◌∙◌}
use mathlib.Core.Bool.{Bool, true, false}
use native.Mathlib.Nat.{mul_assoc, mul_comm, mul-pos}
use native.Mathlib.Omega.{arith}
use lib.Dec.{T, eqb-suc-zero, le→leb, lt→ltb}
use lib.IntN.{ℤ, pos, negsuc}
use lib.Signed.{mag}
use lib.Pow.{pow_pos}
use lib.Ieee.{Float, nan, inf, fin, binary64, unlike, up, down, round, div, of_int, in_float}
use lib.Ieee.Exact.{HasValue}
use lib.Ieee.Back.{round_whole}
use lib.Ieee.Scale.{round_same}
use lib.Ieee.Fits.{down_pos}
use Rattle.float.specs.Nearest.{nearest_to}

unlike_false : (t : Bool) → unlike t false ≡ t
unlike_false true = refl
unlike_false false = refl

-- c is the divisor, an odd number times a power of 2
module _ (q k : ℕ) where
  abbrev c : ℕ
  c = suc q * 2 ^ k

  over : (x : Float) (s : Bool) (n : ℕ) → HasValue x s n 1 → div binary64 x (fin false (suc q) (pos k)) ≡ round binary64 s n c
  unfolding div
  over nan s n h = absurd h
  over (inf t) s n h = absurd h
  over (fin t m e) s n h =
      let p : 0 < c = mul-pos {m = suc q} (omega arith) (pow_pos k) in
      rw (eqb-suc-zero, unlike_false, h.0)
      (round_same binary64 s (m * up e * 1) (c * down e) n c (mul-pos p (down_pos e)) p
      (ap (λ (z : ℕ). z * c) h.1 ∙ mul_assoc n (down e) c ∙ ap (λ (z : ℕ). n * z) (mul_comm (down e) c)))

  pub quotient : (z : ℤ) → mag z < 2 ^ 53 → div binary64 (of_int binary64 z) (fin false (suc q) (pos k)) ≡ nearest_to z c
  unfolding of_int nearest_to
  quotient (pos n) h = over (round binary64 false n 1) false n (round_whole binary64 false n (omega arith))
  quotient (negsuc n) h = over (round binary64 true (suc n) 1) true (suc n) (round_whole binary64 true (suc n) h)

pub in_float_lem : (z : ℤ) → mag z < 2 ^ 53 → T (in_float binary64 z)
unfolding in_float
in_float_lem (pos n) h = le→leb n (2 ^ 53) (omega arith)
in_float_lem (negsuc n) h = lt→ltb n (2 ^ 53) h
