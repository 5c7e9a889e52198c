-- "Slips we expect" and edges, computed on the definitions: verdicts on small texts, what rows spell, and which codes are taken. Assumes nothing.
use Prim.Native.Nat.{ℕ}
use Prim.Native.String.{String}
use mathlib.Core.Path.{◌≡◌, refl}
use mathlib.Core.Bool.{Bool, true, false}
use mathlib.Core.List.{List, [], ◌∷◌, ◌++◌, map}
use Rattle.std.specs.Prelude.{None, Some}
use lib.Dec.{leb→le}
use lib.ListN.{replicate}
use lib.IntN.{pos, negsuc}
use Rattle.lists.specs.Lists.{bytes, Each}
use Rattle.field.specs.Found.{decimal_of}
use Rattle.line.specs.Text.{text}
use Rattle.rinex.specs.Codes.{is_taken}
use Rattle.rinex.specs.File.{Slot, Row}
use Rattle.rinex.specs.Data.{held_as, RowLine}
use Rattle.rinex.specs.Tables.{state_of, mark_of, Room}
use Rattle.rinex.specs.Refusals.{Verdict, accepted, refused}
use Rattle.rinex.specs.Tests.{mark_at, slot_of, slots_of}
use Rattle.rinex.proofs.Rows.{row_of, row_found}
use Rattle.rinex.proofs.Examples.{judged_in, judged, verdict_on, header, epoch, counted, file}

-- ROWS
-- cut by columns, not at blanks; a blank value; a printed zero, which is held as blank, with marks that are 0
abbrev rows : List (List ℕ)
rows = bytes "R12         0.30213" ∷ bytes "R12" ∷ bytes "R12         0.00000" ∷ []

abbrev row : Slot → Row
row s = record { system = 1; number = 12; slots = s ∷ [] }

abbrev slots : List Slot
slots =
    record { value = Some (pos 302); loss = Some 1; strength = Some 3 }
    ∷ record { value = None; loss = None; strength = None }
    ∷ record { value = None; loss = Some 0; strength = Some 0 }
    ∷ []

rows_spelled : Each (RowLine file.head.lists) rows (map row slots)
unfolding judged mark_at slot_of slots_of row_of
rows_spelled =
    let lists : List (List (List ℕ)) = file.head.lists in
    (row_found lists (bytes "R12         0.30213") refl (leb→le 1 1 tt) refl, (row_found lists (bytes "R12") refl (leb→le 1 1 tt) refl, (row_found lists (bytes "R12         0.00000") refl (leb→le 1 1 tt) refl, tt)))

-- "A blank value is held as state 0 with number 0, a given one as state 1; a blank mark is held as 255."
held : map (λ (s : Slot). state_of s.value) slots ++ map (λ (s : Slot). mark_of s.loss) slots ≡ (1 ∷ 0 ∷ 0 ∷ []) ++ (1 ∷ 255 ∷ 0 ∷ [])
held = refl

-- VALUES
-- zero in each of its spellings, and the numbers next to it; what is printed, and what is held of it
abbrev zeros : List (List ℕ)
zeros =
    bytes "         0.000" ∷ bytes "        -0.000" ∷ bytes "          .000" ∷ bytes "         -.000" ∷ bytes "0000000000.000" ∷ bytes "-000000000.000"
    ∷ bytes "         0.001" ∷ bytes "        -0.001" ∷ []

zeros_printed : map (decimal_of 3) zeros ≡ Some (pos 0) ∷ Some (pos 0) ∷ Some (pos 0) ∷ Some (pos 0) ∷ Some (pos 0) ∷ Some (pos 0) ∷ Some (pos 1) ∷ Some (negsuc 0) ∷ []
unfolding judged
zeros_printed = refl

zeros_held : map (λ (s : List ℕ). held_as (decimal_of 3 s)) zeros ≡ None ∷ None ∷ None ∷ None ∷ None ∷ None ∷ Some (pos 1) ∷ Some (negsuc 0) ∷ []
unfolding judged
zeros_held = refl

-- CODES
-- by system: codes that are taken, and codes that are not, among them what the customer took, codes of other systems, bands and attributes that a table lacks
abbrev asked : ℕ → List String → List Bool
asked s cs = map (λ (c : String). is_taken s (bytes c)) cs

codes_taken :
    asked 0 ("C1C" ∷ "C1Y" ∷ "L1N" ∷ "D1N" ∷ "S2N" ∷ "C2D" ∷ "C5X" ∷ "S5X" ∷ "C1 " ∷ "D2 " ∷ "S5 " ∷ []) ++
    asked 1 ("C1C" ∷ "C3X" ∷ "L2P" ∷ "S3 " ∷ []) ++
    asked 2 ("C1A" ∷ "C6Z" ∷ "C8X" ∷ "D7 " ∷ []) ++
    asked 3 ("C1Z" ∷ "C2L" ∷ "C6X" ∷ "L6 " ∷ []) ++
    asked 4 ("C2I" ∷ "C6X" ∷ "C7Q" ∷ "S2 " ∷ []) ++
    asked 5 ("C5A" ∷ "C9A" ∷ "C9X" ∷ "D9 " ∷ []) ++
    asked 6 ("C1C" ∷ "C5X" ∷ "S5X" ∷ "L1 " ∷ []) ≡ replicate 35 true
unfolding judged
codes_taken = refl

codes_unlisted :
    asked 0 ("C9Q" ∷ "C1N" ∷ "C2N" ∷ "C1D" ∷ "C5C" ∷ "C1A" ∷ "C2I" ∷ "C1Q" ∷ "C9 " ∷ "C3 " ∷ "B1C" ∷ "C0C" ∷ "C1c" ∷ "c1C" ∷ " 1C" ∷ "C 1" ∷ "C1" ∷ "C1CC" ∷ []) ++
    asked 1 ("C4A" ∷ "C1A" ∷ "C2I" ∷ "C4 " ∷ []) ++
    asked 2 ("C6I" ∷ "C2C" ∷ "C2 " ∷ []) ++
    asked 3 ("C2W" ∷ "C1W" ∷ "C3 " ∷ []) ++
    asked 4 ("C1I" ∷ "C5X" ∷ "C2C" ∷ "C1 " ∷ []) ++
    asked 5 ("C9Q" ∷ "C1C" ∷ "C1 " ∷ []) ++
    asked 6 ("C1P" ∷ "C5C" ∷ "C2 " ∷ "S5Y" ∷ []) ++
    asked 7 ("C1C" ∷ "C1 " ∷ []) ≡ replicate 41 false
unfolding judged
codes_unlisted = refl

-- VERDICTS
abbrev at : String
at = "> 2024 12 31 23 59 30.0000000  0  0"

-- the header with these lines before its last, or behind it
abbrev within : List String → List String
within ls =
    "     3.03           OBSERVATION DATA    M                   RINEX VERSION / TYPE" ∷
    "G    2 C1C L1C                                              SYS / # / OBS TYPES" ∷
    "R    1 C1C                                                  SYS / # / OBS TYPES" ∷
    "  2024    12    31    23    59   30.0000000     GPS         TIME OF FIRST OBS" ∷
    (ls ++ ("                                                            END OF HEADER" ∷ []))

abbrev behind : List String → List String
behind ls = header ++ ls

-- 64 codes in five lines
abbrev most : List String
most =
    "E   64 C1A C1B C1C C1X C1Z C5I C5Q C5X C6A C6B C6C C6X C6Z  SYS / # / OBS TYPES" ∷
    "       C7I C7Q C7X C8I C8Q C8X D1A D1B D1C D1X D1Z D5I D5Q  SYS / # / OBS TYPES" ∷
    "       D5X D6A D6B D6C D6X D6Z D7I D7Q D7X D8I D8Q D8X L1A  SYS / # / OBS TYPES" ∷
    "       L1B L1C L1X L1Z L5I L5Q L5X L6A L6B L6C L6X L6Z L7I  SYS / # / OBS TYPES" ∷
    "       L7Q L7X L8I L8Q L8X S1A S1B S1C S1X S1Z S5I S5Q      SYS / # / OBS TYPES" ∷
    []

-- some lines and the verdict on their text
record Case : Type 0 where
  pub lines : List String
  pub verdict : Verdict

infix 4 ◌gives◌
abbrev ◌gives◌ : List String → Verdict → Case
ls gives v = record { lines = ls; verdict = v }

abbrev cases : List Case
cases =
    -- a row of an undeclared system
    (behind ("> 2024 12 31 23 59 30.0000000  0  1" ∷ "E12" ∷ []) gives refused 11 7)
    -- in an event, a COMMENT line that begins with `>`
    ∷ (behind (">                              4  1" ∷ "> note                                                      COMMENT" ∷ at ∷ []) gives accepted (counted 2 0 0 68))
    -- equal epoch times, and times that go back, an event between them
    ∷ (behind (at ∷ at ∷ []) gives refused 9 7)
    ∷ (behind (at ∷ "> 2024 12 31 23 59 20.0000000  5  0" ∷ "> 2024 12 31 23 59 29.9999999  1  0" ∷ []) gives refused 9 8)
    -- a second TIME OF FIRST OBS, unfit besides
    ∷ (within ("again                                                       TIME OF FIRST OBS" ∷ []) gives refused 5 5)
    -- 64 codes and 65; a code that comes twice; END OF HEADER where a continuation is due
    ∷ (within most gives accepted (counted 0 0 0 0))
    ∷ (within ("E   65 C1A C1B C1C C1X C1Z C5I C5Q C5X C6A C6B C6C C6X C6Z  SYS / # / OBS TYPES" ∷ []) gives refused 6 5)
    ∷ (within ("E    2 C1A C1A                                              SYS / # / OBS TYPES" ∷ []) gives refused 6 5)
    ∷ (within ("E   14 C1A C1B C1C C1X C1Z C5I C5Q C5X C6A C6B C6C C6X C6Z  SYS / # / OBS TYPES" ∷ []) gives refused 5 6)
    -- a code that no table has, one of another system, and a blank attribute: of a band that stands there, and of one that does not
    ∷ (within ("E    1 C9Q                                                  SYS / # / OBS TYPES" ∷ []) gives refused 6 5)
    ∷ (within ("C    1 C1I                                                  SYS / # / OBS TYPES" ∷ []) gives refused 6 5)
    ∷ (within ("C    1 C2                                                   SYS / # / OBS TYPES" ∷ []) gives accepted (counted 0 0 0 0))
    ∷ (within ("C    1 C1                                                   SYS / # / OBS TYPES" ∷ []) gives refused 6 5)
    -- a row is missing: the next epoch record stands where a row must; a row too many
    ∷ (behind ("> 2024 12 31 23 59 30.0000000  0  2" ∷ "R12" ∷ "> 2024 12 31 23 59 31.0000000  0  0" ∷ []) gives refused 10 8)
    ∷ (behind (epoch ++ ("R13" ∷ [])) gives refused 7 9)
    -- flag 6, and flag 6 without a time
    ∷ (behind ("> 2024 12 31 23 59 30.0000000  6  0" ∷ []) gives refused 8 6)
    ∷ (behind (">                              6  0" ∷ []) gives refused 7 6)
    -- a clock, on an event and on an epoch of flag 0; flag 5 without a time, and flag 4
    ∷ (behind ("> 2024 12 31 23 59 30.0000000  4  0       0.000000000001" ∷ []) gives refused 7 6)
    ∷ (behind ("> 2024 12 31 23 59 30.0000000  0  0       0.000000000001" ∷ []) gives accepted (counted 1 0 0 0))
    ∷ (behind (">                              5  0" ∷ []) gives refused 7 6)
    ∷ (behind (">                              4  0" ∷ []) gives accepted (counted 1 0 0 0))
    -- a flag 3 event without MARKER NAME, and with it
    ∷ (behind (">                              3  0" ∷ []) gives refused 15 6)
    ∷ (behind (">                              3  1" ∷ "ABCD                                                        MARKER NAME" ∷ []) gives accepted (counted 1 0 0 72))
    -- SYS / SCALE FACTOR, also where a continuation is due; an unknown label; column 81 is filled; a record that events bar; no END OF HEADER
    ∷ (within ("G                                                           SYS / SCALE FACTOR" ∷ []) gives refused 4 5)
    ∷ (within ("E   14 C1A C1B C1C C1X C1Z C5I C5Q C5X C6A C6B C6C C6X C6Z  SYS / # / OBS TYPES" ∷ "G                                                           SYS / SCALE FACTOR" ∷ []) gives refused 4 6)
    ∷ (within ("                                                            COMMENTS" ∷ []) gives refused 4 5)
    ∷ (within ("                                                            COMMENT             x" ∷ []) gives refused 4 5)
    ∷ (behind (">                              4  1" ∷ "G    2 C1C L1C                                              SYS / # / OBS TYPES" ∷ []) gives refused 4 7)
    ∷ ("     3.03           OBSERVATION DATA    M                   RINEX VERSION / TYPE" ∷ at ∷ [] gives refused 4 2)
    -- zero with three decimals, with one and with none; a loss-of-lock mark 8, a column past the last slot; row 00
    ∷ (behind ("> 2024 12 31 23 59 30.0000000  0  1" ∷ "R12         0.000" ∷ []) gives accepted (counted 1 1 1 0))
    ∷ (behind ("> 2024 12 31 23 59 30.0000000  0  1" ∷ "R12           0.0" ∷ []) gives refused 13 7)
    ∷ (behind ("> 2024 12 31 23 59 30.0000000  0  1" ∷ "R12             0" ∷ []) gives refused 13 7)
    ∷ (behind ("> 2024 12 31 23 59 30.0000000  0  1" ∷ "R12              8" ∷ []) gives refused 13 7)
    ∷ (behind ("> 2024 12 31 23 59 30.0000000  0  1" ∷ "R12                1" ∷ []) gives refused 13 7)
    ∷ (behind ("> 2024 12 31 23 59 30.0000000  0  1" ∷ "R00" ∷ []) gives refused 10 7)
    -- END OF HEADER again; the header breaks off
    ∷ (behind ("                                                            END OF HEADER" ∷ []) gives refused 7 6)
    ∷ ("     3.03           OBSERVATION DATA    M                   RINEX VERSION / TYPE" ∷ [] gives refused 14 2)
    ∷ []

slips : map (λ (c : Case). verdict_on c.lines) cases ≡ map (λ (c : Case). c.verdict) cases
unfolding verdict_on
slips = refl

-- the empty text, one LF, a last line without its LF, a byte that no line has, and 1,027 and 1,028 columns
abbrev wide : ℕ → List ℕ
wide n = text (map bytes (header ++ (at ∷ []))) ++ (bytes "> 2024 12 31 23 59 31.0000000  0  0" ++ (replicate n 32 ++ (10 ∷ [])))

ends : map judged ([] ∷ (10 ∷ []) ∷ (text (map bytes header) ++ bytes at) ∷ (text (map bytes header) ++ (13 ∷ 10 ∷ [])) ∷ wide 992 ∷ wide 993 ∷ [])
    ≡ refused 3 1 ∷ refused 3 1 ∷ refused 1 6 ∷ refused 1 6 ∷ accepted (counted 2 0 0 0) ∷ refused 2 7 ∷ []
unfolding judged
ends = refl

-- ROOM
-- the example with a carried line of 67 bytes and its LF, in a room
in_room : Room → Verdict
unfolding judged_in
in_room r = judged_in r (text (map bytes (within ("> note                                                      COMMENT" ∷ []) ++ epoch)))

abbrev room_of : ℕ → ℕ → ℕ → ℕ → ℕ → Room
room_of k e r s c = record { codes = k; epochs = e; rows = r; slots = s; carried = c }

-- exact, and one short in each table: the places of the codes, the epochs, the rows, the slots, the carried bytes
exact : map in_room (room_of 65 1 2 3 68 ∷ room_of 64 1 2 3 68 ∷ room_of 65 0 2 3 68 ∷ room_of 65 1 1 3 68 ∷ room_of 65 1 2 2 68 ∷ room_of 65 1 2 3 67 ∷ [])
    ≡ accepted (counted 1 2 3 68) ∷ refused 16 3 ∷ refused 16 7 ∷ refused 16 9 ∷ refused 16 9 ∷ refused 16 5 ∷ []
unfolding in_room
exact = refl
