-- THE NORMAL TEXT of a file, and of one epoch.
use Rattle.std.specs.Prelude.{ℕ, zero, suc, ◌+◌, List, [], ◌∷◌, ◌++◌, map, length, get_or, take, drop, ℤ, pos}
use Prim.Native.String.{String}
use Rattle.std.specs.Prelude.{Option, None, Some}
use Rattle.lists.specs.Lists.{bytes, joined}
use Rattle.lists.specs.Blank.{blanks}
use Rattle.write_field.specs.Normal.{decimal, decimal_or_blank, digit, fixed, mark, whole}
use Rattle.moment.specs.declared.Date.{Date}
use Rattle.moment.specs.Found.{date_at}
use Rattle.line.specs.Text.{text, cut}
use Rattle.label.specs.Labels.{padded}
use Rattle.rinex.specs.Codes.{letter_of, time_systems, codes_per_line}
use Rattle.rinex.specs.File.{Slot, Row, Epoch, observed, event, Head, File}

-- a header line: 60 columns and the label, "trailing blanks are cut"
unfoldable pub line : List ℕ → String → List ℕ
line body label = cut (take 60 (body ++ blanks 60) ++ padded label)

-- "columns 21-36 `OBSERVATION DATA`, 42-60 blank"
unfoldable pub version_line_of : ℕ → List ℕ
version_line_of letter = line (bytes "     3.03           OBSERVATION DATA    " ++ (letter ∷ [])) "RINEX VERSION / TYPE"

-- codes, a blank before each
unfoldable pub spaced : List (List ℕ) → List ℕ
spaced [] = []
spaced (c ∷ cs) = 32 ∷ (c ++ spaced cs)

-- the line of system s's list: count, codes
unfoldable pub list_line : ℕ → ℕ → List (List ℕ) → List ℕ
list_line s count codes = line (letter_of s ∷ (blanks 2 ++ (whole 3 count ++ spaced codes))) "SYS / # / OBS TYPES"

-- a continuation line
unfoldable pub next_line : List (List ℕ) → List ℕ
next_line codes = line (blanks 6 ++ spaced codes) "SYS / # / OBS TYPES"

-- continuation lines, at most k
unfoldable pub next_lines_of : ℕ → List (List ℕ) → List (List ℕ)
next_lines_of zero codes = []
next_lines_of (suc k) [] = []
next_lines_of (suc k) (c ∷ cs) = next_line (take codes_per_line (c ∷ cs)) ∷ next_lines_of k (drop codes_per_line (c ∷ cs))

-- the lines of system s's list; none where it is empty
unfoldable pub list_lines : ℕ → List (List ℕ) → List (List ℕ)
list_lines s [] = []
list_lines s (c ∷ cs) =
    list_line s (length (c ∷ cs)) (take codes_per_line (c ∷ cs)) ∷ next_lines_of (length (c ∷ cs)) (drop codes_per_line (c ∷ cs))

-- "lists in the order G R E J C I S", from system s on
unfoldable pub all_lists : ℕ → List (List (List ℕ)) → List (List ℕ)
all_lists s [] = []
all_lists s (codes ∷ css) = list_lines s codes ++ all_lists (s + 1) css

-- columns 1 to 51 of TIME OF FIRST OBS: a date and time system y
unfoldable pub first_body : Date → ℕ → List ℕ
first_body d y =
    whole 6 d.year ++ (whole 6 d.month ++ (whole 6 d.day ++ (whole 6 d.hour ++ (whole 6 d.minute
    ++ (decimal 13 7 (pos d.ticks) ++ (blanks 5 ++ get_or time_systems y []))))))

unfoldable pub first_line_of : ℕ → ℕ → List ℕ
first_line_of t y = line (first_body (date_at t) y) "TIME OF FIRST OBS"

-- "INTERVAL if held"
unfoldable pub interval_lines : Option ℕ → List (List ℕ)
interval_lines None = []
interval_lines (Some n) = line (decimal 10 3 (pos n)) "INTERVAL" ∷ []

-- the lines of a header
unfoldable pub head_lines : Head → List (List ℕ)
head_lines h =
    version_line_of h.letter
    ∷ ((all_lists 0 h.lists ++ (first_line_of h.first h.time_system ∷ (interval_lines h.interval ++ h.carried)))
    ++ (line [] "END OF HEADER" ∷ []))

-- "month, day, hour and minute of an epoch have two digits"
unfoldable pub time_text : Date → List ℕ
time_text d =
    whole 4 d.year ++ (32 ∷ (fixed 2 d.month ++ (32 ∷ (fixed 2 d.day ++ (32 ∷ (fixed 2 d.hour
    ++ (32 ∷ (fixed 2 d.minute ++ decimal 11 7 (pos d.ticks)))))))))

unfoldable pub epoch_time_text : Option ℕ → List ℕ
epoch_time_text None = blanks 27
epoch_time_text (Some t) = time_text (date_at t)

-- the epoch record of a time's 27 columns
unfoldable pub epoch_body : List ℕ → ℕ → ℕ → Option ℤ → List ℕ
epoch_body time flag count clock =
    62 ∷ (32 ∷ (time ++ (blanks 2 ++ (digit flag ∷ (whole 3 count ++ (blanks 6 ++ decimal_or_blank 15 12 clock))))))

unfoldable pub epoch_line : Option ℕ → ℕ → ℕ → Option ℤ → List ℕ
epoch_line time flag count clock = cut (epoch_body (epoch_time_text time) flag count clock)

unfoldable pub slot_text : Slot → List ℕ
slot_text s = decimal_or_blank 14 3 s.value ++ (mark s.loss ++ mark s.strength)

-- "Satellite numbers .. have two digits"
unfoldable pub row_line : Row → List ℕ
row_line r = cut (letter_of r.system ∷ (fixed 2 r.number ++ joined (map slot_text r.slots)))

-- the lines of an epoch
unfoldable pub epoch_lines : Epoch → List (List ℕ)
epoch_lines (observed o) = epoch_line (Some o.time) o.flag (length o.rows) o.clock ∷ map row_line o.rows
epoch_lines (event v) = epoch_line v.time v.flag (length v.lines) None ∷ v.lines

-- the normal text of one epoch
unfoldable pub normal_epoch : Epoch → List ℕ
normal_epoch e = text (epoch_lines e)

-- the normal text of a file
unfoldable pub normal : File → List ℕ
normal f = text (head_lines f.head ++ joined (map epoch_lines f.epochs))
