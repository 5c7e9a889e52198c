-- A text as lines: "A line ends with LF (byte 10); other bytes are 32 to 126."
use Rattle.std.specs.Prelude.{ℕ, ◌+◌, ◌-◌, ◌≤◌, ◌≡◌, Bool, true, false, cond, ◌&&◌, List, [], ◌∷◌, ◌++◌, eqb, leb, length, get_or, take, drop}
use Rattle.lists.specs.Lists.{every}
use Rattle.lists.specs.Blank.{blanks, is_blank}

-- "a lent run of at most 1,073,741,824 bytes"
abbrev pub longest : ℕ
longest = 1073741824

-- "a line has at most 1,027 columns (3 + 16 × 64)"
abbrev pub widest : ℕ
widest = 1027

-- the text of some lines, each with its LF
abbrev pub text : List (List ℕ) → List ℕ
text [] = []
text (l ∷ ls) = l ++ (10 ∷ text ls)

-- a byte of a line
abbrev pub is_plain : ℕ → Bool
is_plain b = leb 32 b && leb b 126

abbrev pub are_plain : List ℕ → Bool
are_plain l = every is_plain l

-- a line, without its LF, that may stand in a text
pub record Line (l : List ℕ) : Type 0 where
  pub plain : are_plain l ≡ true
  pub width : length l ≤ widest

-- a line as it stands in any run of bytes, and whether an LF ends it
pub record Raw : Type 0 where
  pub bytes : List ℕ
  pub ended : Bool

-- a line with its LF
abbrev pub raw : List ℕ → Raw
raw l = record { bytes = l; ended = true }

-- one byte more at the front of the first line
unfoldable pub onto : ℕ → List Raw → List Raw
onto b [] = record { bytes = b ∷ []; ended = false } ∷ []
onto b (r ∷ rs) = record { bytes = b ∷ r.bytes; ended = r.ended } ∷ rs

-- any run of bytes as its lines; the last may lack its LF, and a final LF starts no further line
unfoldable pub split : List ℕ → List Raw
unfolding onto
split [] = []
split (b ∷ bs) = cond (eqb b 10) (record { bytes = []; ended = true } ∷ split bs) (onto b (split bs))

-- column a of a line, from 1; "a short line reads as if filled with blanks"
unfoldable pub col : ℕ → List ℕ → ℕ
col a l = get_or l (a - 1) 32

-- columns a to b
unfoldable pub cols : ℕ → ℕ → List ℕ → List ℕ
cols a b l = take (b + 1 - a) (drop (a - 1) l ++ blanks (b + 1 - a))

-- the columns past column a
abbrev pub past : ℕ → List ℕ → List ℕ
past a l = drop a l

-- a line with its trailing blanks cut
unfoldable pub cut : List ℕ → List ℕ
cut [] = []
cut (b ∷ l) = cond (is_blank (b ∷ l)) [] (b ∷ cut l)
