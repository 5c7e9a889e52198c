-- Which lines spell which epochs, rows, slots and events, under the header's lists.
use Rattle.std.specs.Prelude.{ℕ, ◌+◌, ◌-◌, ◌≤◌, ◌<◌, ◌≡◌, Bool, true, false, cond, ◌&&◌, ◌||◌, List, [], ◌∷◌, map, eqb, ltb, length, get_or, ℤ, pos, negsuc}
use Rattle.std.specs.Prelude.{Option, None, Some}
use Rattle.lists.specs.Lists.{byte, Each, joined, fresh}
use Rattle.lists.specs.Blank.{Blank}
use Rattle.field.specs.Field.{are_digits, value_of, Whole, DecimalOrBlank, Mark}
use Rattle.moment.specs.Moment.{Time}
use Rattle.line.specs.Text.{col, cols, past, cut}
use Rattle.label.specs.declared.Label.TheVariants.{MarkerName, Unknown}
use Rattle.label.specs.Labels.{is, label_of, barred_from_events}
use Rattle.rinex.specs.Codes.{letter_of}
use Rattle.rinex.specs.File.{Slot, Row, Observed, Event, Epoch, observed, event, satellite, times}

-- "year 3-6, month 8-9, day 11-12, hour 14-15, minute 17-18, second 19-29 (F11.7)"
pub record EpochTime (l : List ℕ) (t : ℕ) : Type 0 where
  pub time : Time (cols 3 6 l) (cols 8 9 l) (cols 11 12 l) (cols 14 15 l) (cols 17 18 l) (cols 19 29 l) t
  pub gap_7 : col 7 l ≡ 32
  pub gap_10 : col 10 l ≡ 32
  pub gap_13 : col 13 l ≡ 32
  pub gap_16 : col 16 l ≡ 32

-- a time, or "columns 3-29 all blank"
abbrev pub EpochTimeOrBlank : List ℕ → Option ℕ → Type 0
EpochTimeOrBlank l None = Blank (cols 3 29 l)
EpochTimeOrBlank l (Some t) = EpochTime l t

-- the epoch record; "all other columns are blank"
pub record EpochLine (l : List ℕ) (time : Option ℕ) (flag count : ℕ) (clock : Option ℤ) : Type 0 where
  pub mark : col 1 l ≡ byte ">"
  pub gap : col 2 l ≡ 32
  pub time_at : EpochTimeOrBlank l time
  pub gap_2 : Blank (cols 30 31 l)
  pub flag_at : col 32 l ≡ 48 + flag
  pub count_at : Whole (cols 33 35 l) count
  pub gap_3 : Blank (cols 36 41 l)
  pub clock_at : DecimalOrBlank 12 (cols 42 56 l) clock
  pub rest : Blank (past 56 l)

-- whether a number is 0
abbrev pub is_nought : ℤ → Bool
is_nought (pos n) = eqb n 0
is_nought (negsuc n) = false

-- 2026-02: "a value field whose number is 0, however spelled, is held as blank"
abbrev pub held_as : Option ℤ → Option ℤ
held_as None = None
held_as (Some z) = cond (is_nought z) None (Some z)

-- "value F14.3 or blank": the number that is printed, or none, and what is held of it
pub record Value (s : List ℕ) (v : Option ℤ) : Type 0 where
  pub printed : Option ℤ
  pub columns : DecimalOrBlank 3 s printed
  pub held : v ≡ held_as printed

-- "value F14.3 or blank; loss-of-lock mark blank or 0-7; strength mark blank or 0-9"; the slot stands from column a on
pub record SlotAt (a : ℕ) (l : List ℕ) (s : Slot) : Type 0 where
  pub value : Value (cols a (a + 13) l) s.value
  pub loss : Mark 7 (col (a + 14) l) s.loss
  pub strength : Mark 9 (col (a + 15) l) s.strength

-- "16 columns each", and no column past the last slot is filled
abbrev pub Slots : ℕ → List ℕ → List Slot → Type 0
Slots a l [] = Blank (past (a - 1) l)
Slots a l (s ∷ ss) = SlotAt a l s × Slots (a + 16) l ss

-- a row: "a letter of the seven and two digits 01 to 99", and "one slot for each code of its system"
pub record RowLine (lists : List (List (List ℕ))) (l : List ℕ) (r : Row) : Type 0 where
  pub letter : col 1 l ≡ letter_of r.system
  pub system : r.system < 7
  pub digits : are_digits (cols 2 3 l) ≡ true
  pub number : r.number ≡ value_of 0 (cols 2 3 l)
  pub not_zero : 1 ≤ r.number
  pub declared : 1 ≤ length (get_or lists r.system [])
  pub one_each : length r.slots ≡ length (get_or lists r.system [])
  pub slots : Slots 4 l r.slots

-- "Flags 0 and 1: count rows follow"; no satellite stands twice
pub record ObservedLines (lists : List (List (List ℕ))) (l : List ℕ) (ls : List (List ℕ)) (o : Observed) : Type 0 where
  pub flag : o.flag ≤ 1
  pub line : EpochLine l (Some o.time) o.flag (length o.rows) o.clock
  pub rows : Each (RowLine lists) ls o.rows
  pub apart : fresh eqb [] (map satellite o.rows) ≡ true

-- "carried as header lines are"
pub record EventLine (l : List ℕ) (c : List ℕ) : Type 0 where
  pub kept : c ≡ cut l
  pub known : is Unknown (label_of l) ≡ false
  pub not_barred : barred_from_events (label_of l) ≡ false
  pub rest : Blank (past 80 l)

-- "flags 2, 3, 4 may leave columns 3-29 all blank"
abbrev pub TimeAsked : ℕ → Option ℕ → Type 0
TimeAsked flag None = flag ≤ 4
TimeAsked flag (Some t) = Unit

-- one of the lines is MARKER NAME
abbrev pub any_marker_name : List (List ℕ) → Bool
any_marker_name [] = false
any_marker_name (l ∷ ls) = is MarkerName (label_of l) || any_marker_name ls

-- "Flags 2 to 5: count lines follow .. and the clock is blank"
pub record EventLines (l : List ℕ) (ls : List (List ℕ)) (v : Event) : Type 0 where
  pub flag_from : 2 ≤ v.flag
  pub flag_to : v.flag ≤ 5
  pub line : EpochLine l v.time v.flag (length v.lines) None
  pub time : TimeAsked v.flag v.time
  pub lines : Each EventLine ls v.lines
  pub marker : v.flag ≡ 3 → any_marker_name ls ≡ true

-- the lines of one epoch
abbrev pub EpochLines : List (List (List ℕ)) → List (List ℕ) → Epoch → Type 0
EpochLines lists [] e = ⊥
EpochLines lists (l ∷ ls) (observed o) = ObservedLines lists l ls o
EpochLines lists (l ∷ ls) (event v) = EventLines l ls v

-- later than the last one, if there is one
abbrev pub later : Option ℕ → ℕ → Bool
later None t = true
later (Some u) t = ltb u t

-- each is later than the one before it
abbrev pub ascend : Option ℕ → List ℕ → Bool
ascend last [] = true
ascend last (t ∷ ts) = later last t && ascend (Some t) ts

-- lines that spell epochs; those of flag 0 and 1 in time order
pub record DataLines (lists : List (List (List ℕ))) (ls : List (List ℕ)) (es : List Epoch) : Type 0 where
  pub groups : List (List (List ℕ))
  pub lines : ls ≡ joined groups
  pub epochs : Each (EpochLines lists) groups es
  pub order : ascend None (times es) ≡ true
