-- The normal spelling of a number in w columns, and which numbers w columns hold.
use Rattle.std.specs.Prelude.{ℕ, zero, suc, ◌+◌, ◌-◌, ◌/◌, ◌%◌, ◌^◌, Bool, cond, ◌&&◌, List, [], ◌∷◌, ◌++◌, leb, ltb, length, ℤ, pos, negsuc}
use Rattle.std.specs.Prelude.{Option, None, Some}
use Rattle.lists.specs.Blank.{blanks}

-- at the right of w columns
unfoldable pub right : ℕ → List ℕ → List ℕ
right w s = blanks (w - length s) ++ s

-- the last digit of n
abbrev pub digit : ℕ → ℕ
digit n = 48 + n % 10

-- n in exactly w digits
unfoldable pub fixed : ℕ → ℕ → List ℕ
fixed zero n = []
fixed (suc w) n = fixed w (n / 10) ++ (digit n ∷ [])

-- n with no leading zeros, one digit or more; at most w digits
unfoldable pub digits : ℕ → ℕ → List ℕ
digits zero n = []
digits (suc w) n = cond (ltb n 10) (digit n ∷ []) (digits w (n / 10) ++ (digit n ∷ []))

-- "other whole numbers .. have no leading zeros"
unfoldable pub whole : ℕ → ℕ → List ℕ
whole w n = right w (digits w n)

-- "one digit or more before the point, none needless"; d decimals
unfoldable pub plain : ℕ → ℕ → ℕ → List ℕ
plain w d n = digits w (n / 10 ^ d) ++ (46 ∷ fixed d n)

-- "a minus only below zero"; negsuc n is -(n + 1)
unfoldable pub decimal : ℕ → ℕ → ℤ → List ℕ
decimal w d (pos n) = right w (plain w d n)
decimal w d (negsuc n) = right w (45 ∷ plain w d (suc n))

abbrev pub decimal_or_blank : ℕ → ℕ → Option ℤ → List ℕ
decimal_or_blank w d None = blanks w
decimal_or_blank w d (Some z) = decimal w d z

abbrev pub mark : Option ℕ → List ℕ
mark None = blanks 1
mark (Some m) = digit m ∷ []

-- there is a column for a digit, and n has at most w digits
unfoldable pub whole_fits : ℕ → ℕ → Bool
whole_fits w n = leb 1 w && ltb n (10 ^ w)

-- a column for the point, one for a minus, and the others for digits: d decimals and one or more before the point
unfoldable pub decimal_fits : ℕ → ℕ → ℤ → Bool
decimal_fits w d (pos n) = leb (d + 2) w && ltb n (10 ^ (w - 1))
decimal_fits w d (negsuc n) = leb (d + 3) w && ltb (suc n) (10 ^ (w - 2))
