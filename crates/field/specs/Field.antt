-- Numbers in fields: which columns spell which number. A field is the bytes of its columns, all of them.
use Rattle.std.specs.Prelude.{ℕ, ◌+◌, ◌-◌, ◌*◌, ◌≤◌, ◌<◌, ◌≡◌, Bool, true, false, ◌&&◌, List, [], ◌∷◌, ◌++◌, leb, length, ℤ, pos, neg_ℤ}
use Rattle.std.specs.Prelude.{Option, None, Some}
use Rattle.lists.specs.Lists.{every}
use Rattle.lists.specs.Blank.{Blank, blanks}

-- a digit, '0' (48) to '9' (57)
abbrev pub is_digit : ℕ → Bool
is_digit b = leb 48 b && leb b 57

abbrev pub are_digits : List ℕ → Bool
are_digits s = every is_digit s

-- the number that digits spell, where m stands before them
abbrev pub value_of : ℕ → List ℕ → ℕ
value_of m [] = m
value_of m (x ∷ s) = value_of (m * 10 + (x - 48)) s

-- "A whole number stands at the right of its field: blanks, then one digit or more."
pub record Whole (s : List ℕ) (n : ℕ) : Type 0 where
  pub lead : ℕ
  pub digits : List ℕ
  pub spelled : s ≡ blanks lead ++ digits
  pub some_digit : 1 ≤ length digits
  pub all_digits : are_digits digits ≡ true
  pub number : n ≡ value_of 0 digits

-- digits, perhaps none, a point (46) and d digits; n is the number of them all, in units of the last decimal
pub record Plain (d : ℕ) (s : List ℕ) (n : ℕ) : Type 0 where
  pub whole : List ℕ
  pub part : List ℕ
  pub spelled : s ≡ whole ++ 46 ∷ part
  pub all_digits : are_digits (whole ++ part) ≡ true
  pub decimals : length part ≡ d
  pub number : n ≡ value_of 0 (whole ++ part)

-- a minus (45), or nothing
abbrev pub sign : Bool → List ℕ
sign true = 45 ∷ []
sign false = []

-- minus zero is zero
abbrev pub signed : Bool → ℕ → ℤ
signed true n = neg_ℤ (pos n)
signed false n = pos n

-- "A decimal number: blanks, an optional minus, digits (perhaps none), a point, exactly the format's count of decimals,
-- ending in the field's last column. No plus, no exponent."
pub record Decimal (d : ℕ) (s : List ℕ) (z : ℤ) : Type 0 where
  pub lead : ℕ
  pub minus : Bool
  pub rest : List ℕ
  pub size : ℕ
  pub spelled : s ≡ blanks lead ++ (sign minus ++ rest)
  pub plain : Plain d rest size
  pub number : z ≡ signed minus size

-- a decimal number, or blank = not given
abbrev pub DecimalOrBlank : ℕ → List ℕ → Option ℤ → Type 0
DecimalOrBlank d s None = Blank s
DecimalOrBlank d s (Some z) = Decimal d s z

-- a mark, one byte: blank, or a digit from 0 to top
abbrev pub Mark : ℕ → ℕ → Option ℕ → Type 0
Mark top b None = b ≡ 32
Mark top b (Some m) = (b ≡ 48 + m) × (m ≤ top)

-- "second without sign, one or two digits before the point, below 60", in 10⁻⁷ s
pub record Second (s : List ℕ) (n : ℕ) : Type 0 where
  pub lead : ℕ
  pub rest : List ℕ
  pub spelled : s ≡ blanks lead ++ rest
  pub plain : Plain 7 rest n
  pub one_digit : 1 ≤ length plain.whole
  pub two_digits : length plain.whole ≤ 2
  pub below : n < 600000000
