-- Which lines spell which header records, and which records make a header.
use Rattle.std.specs.Prelude.{ℕ, ◌+◌, ◌≤◌, ◌<◌, ◌≡◌, true, cond, List, [], ◌∷◌, ◌++◌, eqb, length, get_or, take, drop, pos}
use Rattle.lists.specs.Lists.{bytes, byte, All, Each, joined, as_list, same, fresh}
use Rattle.lists.specs.Blank.{Blank}
use Rattle.field.specs.Field.{Whole, Decimal}
use Rattle.moment.specs.Moment.{Time}
use Rattle.line.specs.Text.{col, cols, past, cut}
use Rattle.label.specs.declared.Label.TheVariants.{Version, ObsTypes, FirstObs, Interval, EndOfHeader}
use Rattle.label.specs.Labels.{label_of, carried_in_header}
use Rattle.rinex.specs.Codes.{letter_of, is_file_letter, allows, time_systems, is_taken, most_codes, codes_per_line}
use Rattle.rinex.specs.File.{Head}

-- RINEX VERSION / TYPE: "columns 1-9 are five blanks and 3.03, 10-20 blank, 21 is O, 41 a letter of the seven or M"; 22-40 and 42-60 are free
pub record VersionLine (l : List ℕ) (letter : ℕ) : Type 0 where
  pub version : cols 1 9 l ≡ bytes "     3.03"
  pub gap : Blank (cols 10 20 l)
  pub observation : col 21 l ≡ byte "O"
  pub letter_at : col 41 l ≡ letter
  pub letter_is : is_file_letter letter ≡ true
  pub label : label_of l ≡ Version
  pub rest : Blank (past 80 l)

-- codes of a system from column a on, a blank and three columns each, "the rest blank"
abbrev pub Codes : ℕ → ℕ → List ℕ → List (List ℕ) → Type 0
Codes system a l [] = Blank (cols a 60 l)
Codes system a l (c ∷ cs) = (col a l ≡ 32) × (cols (a + 1) (a + 3) l ≡ c) × (is_taken system c ≡ true) × Codes system (a + 4) l cs

-- SYS / # / OBS TYPES: letter of a system, count, codes
pub record ListLine (l : List ℕ) (system count : ℕ) (codes : List (List ℕ)) : Type 0 where
  pub letter : col 1 l ≡ letter_of system
  pub system_is : system < 7
  pub gap : Blank (cols 2 3 l)
  pub count_at : Whole (cols 4 6 l) count
  pub codes_at : Codes system 7 l codes
  pub label : label_of l ≡ ObsTypes
  pub rest : Blank (past 80 l)

-- its continuation: six blanks, codes
pub record NextLine (l : List ℕ) (system : ℕ) (codes : List (List ℕ)) : Type 0 where
  pub gap : Blank (cols 1 6 l)
  pub codes_at : Codes system 7 l codes
  pub label : label_of l ≡ ObsTypes
  pub rest : Blank (past 80 l)

-- continuation lines for the codes that are left, "13 a line", none where no code is left
abbrev pub NextLines : List (List ℕ) → ℕ → List (List ℕ) → Type 0
NextLines [] system codes = codes ≡ []
NextLines (l ∷ ls) system codes = (1 ≤ length codes) × NextLine l system (take codes_per_line codes) × NextLines ls system (drop codes_per_line codes)

-- a system's list: its line, and "continuation lines .. follow directly"
pub record CodeList (ls : List (List ℕ)) (letter system : ℕ) (codes : List (List ℕ)) : Type 0 where
  pub line : List ℕ
  pub next : List (List ℕ)
  pub lines : ls ≡ line ∷ next
  pub first_line : ListLine line system (length codes) (take codes_per_line codes)
  pub next_lines : NextLines next system (drop codes_per_line codes)
  pub some_code : 1 ≤ length codes
  pub few_codes : length codes ≤ most_codes
  pub different : fresh same [] codes ≡ true
  pub allowed : allows letter system ≡ true

-- TIME OF FIRST OBS (5I6,F13.7,5X,A3)
pub record FirstLine (l : List ℕ) (time time_system : ℕ) : Type 0 where
  pub time_at : Time (cols 1 6 l) (cols 7 12 l) (cols 13 18 l) (cols 19 24 l) (cols 25 30 l) (cols 31 43 l) time
  pub gap : Blank (cols 44 48 l)
  pub time_system_at : cols 49 51 l ≡ get_or time_systems time_system []
  pub time_system_is : time_system < 6
  pub gap_2 : Blank (cols 52 60 l)
  pub label : label_of l ≡ FirstObs
  pub rest : Blank (past 80 l)

-- INTERVAL (F10.3): "above 0", in thousandths
pub record IntervalLine (l : List ℕ) (n : ℕ) : Type 0 where
  pub interval : Decimal 3 (cols 1 10 l) (pos n)
  pub above : 0 < n
  pub gap : Blank (cols 11 60 l)
  pub label : label_of l ≡ Interval
  pub rest : Blank (past 80 l)

-- a record that is carried: "trailing blanks cut"
pub record CarriedLine (l : List ℕ) (c : List ℕ) : Type 0 where
  pub kept : c ≡ cut l
  pub label : carried_in_header (label_of l) ≡ true
  pub rest : Blank (past 80 l)

-- END OF HEADER: "columns 1-60 blank"
pub record EndLine (l : List ℕ) : Type 0 where
  pub blank : Blank (cols 1 60 l)
  pub label : label_of l ≡ EndOfHeader
  pub rest : Blank (past 80 l)

-- what a record between the version line and END OF HEADER holds
pub data Entry : Type 0 where
  a_list : (system : ℕ) (codes : List (List ℕ)) → Entry
  a_first : (time time_system : ℕ) → Entry
  an_interval : ℕ → Entry
  a_carried : List ℕ → Entry

-- lines that spell one such record, in a file of this letter
abbrev pub Entered : ℕ → List (List ℕ) → Entry → Type 0
Entered letter ls (a_list s codes) = CodeList ls letter s codes
Entered letter ls (a_first t y) = (l : List ℕ) × (ls ≡ l ∷ []) × FirstLine l t y
Entered letter ls (an_interval n) = (l : List ℕ) × (ls ≡ l ∷ []) × IntervalLine l n
Entered letter ls (a_carried c) = (l : List ℕ) × (ls ≡ l ∷ []) × CarriedLine l c

-- the lists of system s among some entries
abbrev pub lists_for : ℕ → List Entry → List (List (List ℕ))
lists_for s [] = []
lists_for s (a_list r codes ∷ es) = cond (eqb s r) (codes ∷ lists_for s es) (lists_for s es)
lists_for s (a_first t y ∷ es) = lists_for s es
lists_for s (an_interval n ∷ es) = lists_for s es
lists_for s (a_carried c ∷ es) = lists_for s es

-- the first times among them, each with its time system
pub record First : Type 0 where
  pub time : ℕ
  pub time_system : ℕ

abbrev pub firsts : List Entry → List First
firsts [] = []
firsts (a_list s codes ∷ es) = firsts es
firsts (a_first t y ∷ es) = record { time = t; time_system = y } ∷ firsts es
firsts (an_interval n ∷ es) = firsts es
firsts (a_carried c ∷ es) = firsts es

abbrev pub intervals : List Entry → List ℕ
intervals [] = []
intervals (a_list s codes ∷ es) = intervals es
intervals (a_first t y ∷ es) = intervals es
intervals (an_interval n ∷ es) = n ∷ intervals es
intervals (a_carried c ∷ es) = intervals es

abbrev pub carrieds : List Entry → List (List ℕ)
carrieds [] = []
carrieds (a_list s codes ∷ es) = carrieds es
carrieds (a_first t y ∷ es) = carrieds es
carrieds (an_interval n ∷ es) = carrieds es
carrieds (a_carried c ∷ es) = c ∷ carrieds es

-- a system's list as it is declared: not at all where it is empty, else once
abbrev pub declared : List (List ℕ) → List (List (List ℕ))
declared [] = []
declared (c ∷ cs) = (c ∷ cs) ∷ []

-- the places of the seven systems
abbrev pub seven : List ℕ
seven = 0 ∷ 1 ∷ 2 ∷ 3 ∷ 4 ∷ 5 ∷ 6 ∷ []

-- lines that spell a header: the version line, records in any order, END OF HEADER
pub record HeaderLines (ls : List (List ℕ)) (h : Head) : Type 0 where
  pub version : List ℕ
  pub groups : List (List (List ℕ))
  pub end : List ℕ
  pub lines : ls ≡ version ∷ (joined groups ++ (end ∷ []))
  pub version_line : VersionLine version h.letter
  pub entries : List Entry
  pub entered : Each (Entered h.letter) groups entries
  pub end_line : EndLine end
  -- "One list a system"
  pub systems : length h.lists ≡ 7
  pub lists : All (λ (s : ℕ). lists_for s entries ≡ declared (get_or h.lists s [])) seven
  -- "needs a list .. before it"
  pub some_list : 1 ≤ length (joined h.lists)
  -- "exactly once"
  pub first : firsts entries ≡ record { time = h.first; time_system = h.time_system } ∷ []
  -- "at most once"
  pub interval : intervals entries ≡ as_list h.interval
  -- "kept in order"
  pub carried : carrieds entries ≡ h.carried
