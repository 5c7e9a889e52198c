-- Systems, file letters, time systems and observation codes.
use Rattle.std.specs.Prelude.{ℕ, Bool, ◌&&◌, ◌||◌, List, [], ◌∷◌, map, eqb, length, get_or, take}
use Rattle.lists.specs.Lists.{bytes, byte, same, is_in}
use Rattle.rinex.specs.CodeTable.{tabled}

-- the seven systems, in the paper's order; system s is the one at place s, from 0
abbrev pub systems : List ℕ
systems = bytes "GREJCIS"

abbrev pub letter_of : ℕ → ℕ
letter_of s = get_or systems s 0

-- "a letter of the seven or M"
abbrev pub is_file_letter : ℕ → Bool
is_file_letter b = is_in eqb b (bytes "GREJCISM")

-- "a file letter other than M allows that system only"
abbrev pub allows : ℕ → ℕ → Bool
allows letter s = eqb letter (byte "M") || eqb letter (letter_of s)

-- "GPS, GLO, GAL, QZS, BDT or IRN"
abbrev pub time_systems : List (List ℕ)
time_systems = bytes "GPS" ∷ bytes "GLO" ∷ bytes "GAL" ∷ bytes "QZS" ∷ bytes "BDT" ∷ bytes "IRN" ∷ []

-- "A code is C, L, D or S, a digit 1-9, then A-Z or blank."
unfoldable pub is_code : List ℕ → Bool
is_code c =
    eqb (length c) 3 && (is_in eqb (get_or c 0 0) (bytes "CLDS") && (is_in eqb (get_or c 1 0) (bytes "123456789")
    && is_in eqb (get_or c 2 0) (bytes "ABCDEFGHIJKLMNOPQRSTUVWXYZ ")))

-- type and band
abbrev pub type_and_band : List ℕ → List ℕ
type_and_band c = take 2 c

-- "A code is taken exactly if it stands in the table under that system, or has the form with a blank attribute and its type and band stand there."
unfoldable pub is_taken : ℕ → List ℕ → Bool
is_taken s c =
    is_in same c (tabled s)
    || (is_code c && (eqb (get_or c 2 0) 32 && is_in same (type_and_band c) (map type_and_band (tabled s))))

-- "count 1 to 64"; "13 a line"
abbrev pub most_codes : ℕ
most_codes = 64

abbrev pub codes_per_line : ℕ
codes_per_line = 13
