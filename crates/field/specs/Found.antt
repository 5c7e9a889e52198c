-- The number of a field, computed: that it is the one of the rule is proved in proofs/Found.
use Rattle.std.specs.Prelude.{ℕ, ◌+◌, ◌-◌, Bool, true, false, cond, ◌&&◌, ◌||◌, List, [], ◌∷◌, ◌++◌, eqb, leb, ltb, length, get_or, take, drop, ℤ}
use Rattle.std.specs.Prelude.{Option, None, Some}
use Rattle.lists.specs.Maybe.{when, ◌>>=◌}
use Rattle.field.specs.Field.{is_digit, are_digits, value_of, signed}

-- a field without its leading blanks
unfoldable pub unblank : List ℕ → List ℕ
unblank [] = []
unblank (b ∷ s) = cond (eqb b 32) (unblank s) (b ∷ s)

-- the whole number of a field, where it is fit
unfoldable pub whole_of : List ℕ → Option ℕ
whole_of s = let ds = unblank s in when (leb 1 (length ds) && are_digits ds) (value_of 0 ds)

-- the digits of a number with d decimals: those before the point and those after it
unfoldable pub digits_of : ℕ → List ℕ → List ℕ
digits_of d s = take (length s - (d + 1)) s ++ drop (length s - d) s

unfoldable pub plain_of : ℕ → List ℕ → Option ℕ
plain_of d s =
    when (ltb d (length s) && (eqb (get_or s (length s - (d + 1)) 0) 46 && are_digits (digits_of d s))) (value_of 0 (digits_of d s))

-- the number, of a decimal field without its leading blanks
unfoldable pub signed_plain : ℕ → List ℕ → Option ℤ
signed_plain d [] = None
signed_plain d (b ∷ s) =
    cond (eqb b 45) (plain_of d s >>= λ n. Some (signed true n)) (plain_of d (b ∷ s) >>= λ n. Some (signed false n))

-- the decimal number of a field, where it is fit
unfoldable pub decimal_of : ℕ → List ℕ → Option ℤ
decimal_of d s = signed_plain d (unblank s)

-- the second of a field, where it is fit: one or two digits, a point, seven digits
unfoldable pub second_of : List ℕ → Option ℕ
second_of s =
    let u = unblank s in
    plain_of 7 u >>= λ n. when (leb 9 (length u) && (leb (length u) 10 && ltb n 600000000)) n

-- whether a mark is fit: blank, or a digit from 0 to top
unfoldable pub mark_fits : ℕ → ℕ → Bool
mark_fits top b = eqb b 32 || (is_digit b && leb (b - 48) top)
