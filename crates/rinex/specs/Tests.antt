-- Whether fields and lines are fit, computed: the words in which the refusals are written.
use Rattle.std.specs.Prelude.{ℕ, zero, suc, ◌+◌, ◌-◌, min, Bool, false, cond, not, ◌&&◌, ◌||◌, List, [], ◌∷◌, eqb, leb, ltb, ℤ, pos, negsuc}
use Rattle.std.specs.Prelude.{Option, None, Some}
use Rattle.lists.specs.Lists.{bytes, byte, same, place, is_in, fresh}
use Rattle.lists.specs.Blank.{is_blank}
use Rattle.lists.specs.Maybe.{given, is_given}
use Rattle.field.specs.Field.{are_digits, value_of, is_digit}
use Rattle.field.specs.Found.{whole_of, decimal_of, mark_fits}
use Rattle.moment.specs.Found.{time_in}
use Rattle.line.specs.Text.{col, cols, past}
use Rattle.label.specs.declared.Label.TheVariants.{Version}
use Rattle.label.specs.Labels.{is, label_of}
use Rattle.rinex.specs.File.{Slot}
use Rattle.rinex.specs.Data.{held_as}
use Rattle.rinex.specs.Codes.{systems, is_file_letter, allows, time_systems, is_taken, most_codes, codes_per_line}

-- the system whose letter stands in column 1, and 7 where none does
unfoldable pub system_at : List ℕ → ℕ
system_at l = place eqb (col 1 l) systems

-- a fit RINEX VERSION / TYPE record
unfoldable pub version_fits : List ℕ → Bool
version_fits l =
    same (cols 1 9 l) (bytes "     3.03") && (is_blank (cols 10 20 l) && (eqb (col 21 l) (byte "O")
    && (is_file_letter (col 41 l) && (is Version (label_of l) && is_blank (past 80 l)))))

-- n codes from column a on, as they stand
unfoldable pub codes_at : ℕ → ℕ → List ℕ → List (List ℕ)
codes_at zero a l = []
codes_at (suc n) a l = cols (a + 1) (a + 3) l ∷ codes_at n (a + 4) l

-- they are codes of the system, a blank before each, and the rest is blank: "6 covers an unlisted code, for the reader" (2026-04)
unfoldable pub codes_fit : ℕ → ℕ → ℕ → List ℕ → Bool
codes_fit system zero a l = is_blank (cols a 60 l)
codes_fit system (suc n) a l = eqb (col a l) 32 && (is_taken system (cols (a + 1) (a + 3) l) && codes_fit system n (a + 4) l)

-- how many of n codes stand in one line
abbrev pub in_line : ℕ → ℕ
in_line n = min codes_per_line n

-- the count of a list's line, and 0 where it is unfit
unfoldable pub list_count : List ℕ → ℕ
list_count l = given 0 (whole_of (cols 4 6 l))

-- the fields of a list's line are fit, in a file of this letter
unfoldable pub list_fits : ℕ → List ℕ → Bool
list_fits letter l =
    let n = list_count l in
    ltb (system_at l) 7 && (allows letter (system_at l) && (is_blank (cols 2 3 l) && (leb 1 n && (leb n most_codes
    && (codes_fit (system_at l) (in_line n) 7 l && fresh same [] (codes_at (in_line n) 7 l))))))

-- columns 7 to 60 of a continuation of a system's list are fit, where these codes came before and n are left
unfoldable pub next_fits : ℕ → List (List ℕ) → ℕ → List ℕ → Bool
next_fits system before n l = codes_fit system (in_line n) 7 l && fresh same before (codes_at (in_line n) 7 l)

-- the time in the columns of TIME OF FIRST OBS
abbrev pub first_time : List ℕ → Option ℕ
first_time l = time_in (cols 1 6 l) (cols 7 12 l) (cols 13 18 l) (cols 19 24 l) (cols 25 30 l) (cols 31 43 l)

unfoldable pub first_fits : List ℕ → Bool
first_fits l =
    is_given (first_time l)
    && (is_blank (cols 44 48 l) && (is_in same (cols 49 51 l) time_systems && is_blank (cols 52 60 l)))

-- above 0
abbrev pub is_above : Option ℤ → Bool
is_above None = false
is_above (Some (pos n)) = ltb 0 n
is_above (Some (negsuc n)) = false

unfoldable pub interval_fits : List ℕ → Bool
interval_fits l = is_above (decimal_of 3 (cols 1 10 l)) && is_blank (cols 11 60 l)

-- the flag of an epoch record
unfoldable pub flag_at : List ℕ → ℕ
flag_at l = col 32 l - 48

-- its count, and 0 where it is unfit
unfoldable pub count_at : List ℕ → ℕ
count_at l = given 0 (whole_of (cols 33 35 l))

-- the time in its columns, whatever stands between them; and its time, where it is given and fit
abbrev pub time_columns : List ℕ → Option ℕ
time_columns l = time_in (cols 3 6 l) (cols 8 9 l) (cols 11 12 l) (cols 14 15 l) (cols 17 18 l) (cols 19 29 l)

unfoldable pub epoch_time : List ℕ → Option ℕ
epoch_time l =
    cond (eqb (col 7 l) 32 && (eqb (col 10 l) 32 && (eqb (col 13 l) 32 && eqb (col 16 l) 32)))
    (time_columns l)
    None

-- flags 2 to 5
abbrev pub is_event : ℕ → Bool
is_event flag = leb 2 flag && leb flag 5

-- a time, or under flags 2, 3 and 4 columns 3-29 all blank
unfoldable pub time_fits : ℕ → List ℕ → Bool
time_fits flag l = is_given (epoch_time l) || (leb 2 flag && (leb flag 4 && is_blank (cols 3 29 l)))

-- blank, or a number where the flag is none of an event
unfoldable pub clock_fits : ℕ → List ℕ → Bool
clock_fits flag l = is_blank (cols 42 56 l) || (not (is_event flag) && is_given (decimal_of 12 (cols 42 56 l)))

-- a fit epoch record; flags 6 to 9 are judged as flag 0
unfoldable pub epoch_fits : List ℕ → Bool
epoch_fits l =
    eqb (col 1 l) (byte ">") && (eqb (col 2 l) 32 && (time_fits (flag_at l) l && (is_blank (cols 30 31 l)
    && (is_digit (col 32 l) && (is_given (whole_of (cols 33 35 l)) && (is_blank (cols 36 41 l)
    && (clock_fits (flag_at l) l && is_blank (past 56 l))))))))

-- the number of a row's satellite
unfoldable pub number_at : List ℕ → ℕ
number_at l = value_of 0 (cols 2 3 l)

-- a letter of the seven and two digits 01 to 99
unfoldable pub satellite_fits : List ℕ → Bool
satellite_fits l = ltb (system_at l) 7 && (are_digits (cols 2 3 l) && leb 1 (number_at l))

-- F14.3 or blank
unfoldable pub value_fits : List ℕ → Bool
value_fits s = is_blank s || is_given (decimal_of 3 s)

-- n slots from column a on are fit, and what is past them is blank
unfoldable pub slots_fit : ℕ → ℕ → List ℕ → Bool
slots_fit zero a l = is_blank (past (a - 1) l)
slots_fit (suc n) a l =
    value_fits (cols a (a + 13) l) && (mark_fits 7 (col (a + 14) l) && (mark_fits 9 (col (a + 15) l) && slots_fit n (a + 16) l))

-- the mark that a fit byte is
unfoldable pub mark_at : ℕ → Option ℕ
mark_at b = cond (eqb b 32) None (Some (b - 48))

-- the slot from column a on, where it is fit, and n slots
unfoldable pub slot_of : ℕ → List ℕ → Slot
slot_of a l = record { value = held_as (decimal_of 3 (cols a (a + 13) l)); loss = mark_at (col (a + 14) l); strength = mark_at (col (a + 15) l) }

unfoldable pub slots_of : ℕ → ℕ → List ℕ → List Slot
slots_of zero a l = []
slots_of (suc n) a l = slot_of a l ∷ slots_of n (a + 16) l
