-- The paper's example of eight lines, and some edges, by computation. Assumes nothing.
use Prim.Native.Nat.{ℕ}
use Prim.Native.String.{String}
use mathlib.Core.Path.{◌≡◌, refl}
use mathlib.Core.Bool.{Bool, true, false}
use mathlib.Core.List.{List, [], ◌∷◌, ◌++◌, map}
use Rattle.std.specs.Prelude.{None, Some}
use lib.ListN.{replicate}
use lib.IntN.{pos, negsuc}
use lib.Ieee.{fin, round}
use Rattle.lists.specs.Lists.{bytes}
use Rattle.float.specs.Nearest.{nearest_to}
use Rattle.field.specs.Found.{unblank, whole_of, digits_of, plain_of, signed_plain, decimal_of, second_of, mark_fits}
use Rattle.write_field.specs.Normal.{right, fixed, digits, whole, plain, decimal, decimal_fits}
use Rattle.moment.specs.Moment.{leap, year_days, month_days, sum_to, days, instant}
use Rattle.moment.specs.Found.{is_date, time_in, spot, date_at}
use Rattle.line.specs.Text.{text, col, cols, cut, onto, split}
use Rattle.label.specs.Labels.{padded, known, among, label_of}
use Rattle.rinex.specs.Codes.{is_code, is_taken}
use Rattle.rinex.specs.CodeTable.{code_table, tabled}
use Rattle.rinex.specs.File.{Epoch, observed, File}
use Rattle.rinex.specs.Tables.{packed, FlatEpoch, flat_epoch, Counts, Room, Buffers, all_rows, all_slots, all_lines, carried_bytes, counts, flat_head, laid_codes, laid, room}
use Rattle.rinex.specs.Tests.{system_at, version_fits, codes_at, codes_fit, list_count, list_fits, next_fits, first_fits, interval_fits, flag_at, count_at, epoch_time, time_fits, clock_fits, epoch_fits, number_at, satellite_fits, value_fits, slots_fit}
use Rattle.rinex.specs.Refusals.{start, refusal1, refusal2, refusal3, refusal4, again, refusal5, unfit, refusal6, refusal7, refusal8, refusal9, refusal10, refusal11, refusal12, refusal13, refusal15, lacks, refusal16, fault, listed, kept, headed, begun, rowed, next_header, next, Verdict, accepted, refused, ending, judge, verdict}
use Rattle.rinex.specs.Summary.{entry, tally_text, accepted_text, its_room}
use Rattle.rinex.specs.Answers.{thousandth, kind, measured, answer_at, answers}
use Rattle.rinex.specs.Normal
use Rattle.rinex.specs.Fit

-- the verdict on some bytes, in a room
unfoldable pub judged_in : Room → List ℕ → Verdict
unfolding col cols cut leap year_days month_days sum_to days instant padded known among label_of is_code is_taken tabled code_table unblank whole_of digits_of plain_of signed_plain decimal_of second_of is_date time_in system_at version_fits codes_at codes_fit list_count list_fits next_fits first_fits interval_fits flag_at count_at epoch_time time_fits clock_fits epoch_fits number_at satellite_fits mark_fits value_fits slots_fit onto split start refusal1 refusal2 refusal3 refusal4 again refusal5 unfit refusal6 refusal7 refusal8 refusal9 refusal10 refusal11 refusal12 refusal13 refusal15 lacks refusal16 fault listed kept headed begun rowed next_header next ending judge verdict
judged_in r t = verdict r t

unfoldable pub judged : List ℕ → Verdict
unfolding judged_in
judged t = judged_in its_room t

-- the verdict on some lines
unfoldable pub verdict_on : List String → Verdict
unfolding judged
verdict_on ls = judged (text (map bytes ls))

abbrev pub header : List String
header =
    "     3.03           OBSERVATION DATA    M                   RINEX VERSION / TYPE" ∷
    "G    2 C1C L1C                                              SYS / # / OBS TYPES" ∷
    "R    1 C1C                                                  SYS / # / OBS TYPES" ∷
    "  2024    12    31    23    59   30.0000000     GPS         TIME OF FIRST OBS" ∷
    "                                                            END OF HEADER" ∷
    []

abbrev pub epoch : List String
epoch =
    "> 2024 12 31 23 59 30.0000000  0  2" ∷
    "G05  20000000.125 7        -0.5001" ∷
    "R12" ∷
    []

abbrev pub counted : ℕ → ℕ → ℕ → ℕ → Counts
counted e r s c = record { epochs = e; rows = r; slots = s; carried = c }

example : verdict_on (header ++ epoch) ≡ accepted (counted 1 2 3 0)
unfolding verdict_on
example = refl

header_alone : verdict_on header ≡ accepted (counted 0 0 0 0)
unfolding verdict_on
header_alone = refl

undeclared : verdict_on (header ++ ("> 2024 12 31 23 59 30.0000000  0  1" ∷ "E12" ∷ [])) ≡ refused 11 7
unfolding verdict_on
undeclared = refl

twice : verdict_on (header ++ ("> 2024 12 31 23 59 30.0000000  0  2" ∷ "R12" ∷ "R12           0.0" ∷ [])) ≡ refused 12 8
unfolding verdict_on
twice = refl

too_early : verdict_on (header ++ epoch ++ epoch) ≡ refused 9 9
unfolding verdict_on
too_early = refl

row_missing : verdict_on (header ++ ("> 2024 12 31 23 59 30.0000000  0  2" ∷ "R12" ∷ [])) ≡ refused 14 8
unfolding verdict_on
row_missing = refl

no_marker : verdict_on (header ++ (">                              3  1" ∷ "> note                                                      COMMENT" ∷ [])) ≡ refused 15 7
unfolding verdict_on
no_marker = refl

flag_six : verdict_on (header ++ ("> 2024 12 31 23 59 30.0000000  6  0" ∷ [])) ≡ refused 8 6
unfolding verdict_on
flag_six = refl

no_list : verdict_on ("     3.03           OBSERVATION DATA    M                   RINEX VERSION / TYPE" ∷ "                                                            END OF HEADER" ∷ []) ≡ refused 5 2
unfolding verdict_on
no_list = refl

no_lf : judged (bytes "     3.03") ≡ refused 1 1
unfolding judged
no_lf = refl

empty : judged [] ≡ refused 3 1
unfolding judged
empty = refl

-- the epoch of the example, and its file
abbrev pub only : Epoch
only =
    observed
    (record {
      time = 14201567700000000;
      flag = 0;
      clock = None;
      rows =
          record {
            system = 0;
            number = 5;
            slots =
                record { value = Some (pos 20000000125); loss = None; strength = Some 7 }
                ∷ record { value = Some (negsuc 499); loss = Some 1; strength = None }
                ∷ [];
          }
          ∷ record { system = 1; number = 12; slots = record { value = None; loss = None; strength = None } ∷ [] }
          ∷ [];
    })

abbrev pub file : File
file =
    record {
      head =
          record {
            letter = 77;
            lists = (bytes "C1C" ∷ bytes "L1C" ∷ []) ∷ (bytes "C1C" ∷ []) ∷ [] ∷ [] ∷ [] ∷ [] ∷ [] ∷ [];
            first = 14201567700000000;
            time_system = 0;
            interval = None;
            carried = [];
          };
      epochs = only ∷ [];
    }

-- the normal text, computed
unfoldable pub written : File → List ℕ
unfolding leap year_days month_days cut padded right fixed digits whole plain decimal spot date_at Normal.line Normal.version_line_of Normal.spaced Normal.next_lines_of Normal.list_lines Normal.all_lists Normal.first_line_of Normal.interval_lines Normal.head_lines Normal.epoch_time_text Normal.epoch_line Normal.slot_text Normal.row_line Normal.epoch_lines Normal.normal Normal.list_line Normal.next_line Normal.first_body Normal.epoch_body Normal.time_text
written f = Normal.normal f

-- the example is its file's normal text
normal_text : Normal.normal file ≡ text (map bytes (header ++ epoch))
unfolding written
normal_text = refl

file_counts : counts file ≡ counted 1 2 3 0
unfolding all_rows all_slots all_lines carried_bytes counts
file_counts = refl

-- what the summary program writes of it
summary : accepted_text file ≡ text (map bytes ("result=accepted" ∷ "epochs=1" ∷ "events=0" ∷ "rows=2" ∷ "slots=3" ∷ "blank=1" ∷ []))
unfolding all_rows all_slots digits entry tally_text
summary = refl

-- tables with the example in them, and one entry more in each
blank : Buffers
blank =
    record {
      codes = replicate 448 0;
      times = replicate 2 0;
      time_states = replicate 2 0;
      flags = replicate 2 0;
      counts = replicate 2 0;
      clocks = replicate 2 (pos 0);
      clock_states = replicate 2 0;
      satellites = replicate 3 0;
      numbers = replicate 4 (pos 0);
      states = replicate 4 0;
      losses = replicate 4 0;
      strengths = replicate 4 0;
      carried = replicate 1 0;
    }

unfoldable pub fitting : File → Bool
unfolding col cols cut padded known among label_of is_code is_taken tabled code_table split all_rows all_slots all_lines carried_bytes counts flat_head laid_codes laid room blank decimal_fits Fit.head_fits Fit.are_taken Fit.list_fits Fit.lists_fit Fit.all_lists_fit Fit.header_lines_fit Fit.event_lines_fit Fit.some_marker Fit.slots_fit Fit.row_fits Fit.rows_fit Fit.observed_fits Fit.event_fits Fit.epoch_fits Fit.epochs_fit Fit.room_fits Fit.tables_fit
fitting f = Fit.tables_fit (flat_head f.head) (counts f) (laid f blank)

tables_fit_lem : fitting file ≡ true
unfolding fitting
tables_fit_lem = refl

-- another time system, another letter, no epochs; one epoch twice has no order
abbrev changed : ℕ → ℕ → List Epoch → File
changed letter time_system epochs =
    let h = file.head in
    record {
      head = record { letter = letter; lists = h.lists; first = h.first; time_system = time_system; interval = h.interval; carried = h.carried };
      epochs = epochs;
    }

tables_unfit : map fitting (changed 77 5 [] ∷ changed 77 6 [] ∷ changed 71 0 [] ∷ changed 77 0 (file.epochs ++ file.epochs) ∷ []) ≡ true ∷ false ∷ false ∷ false ∷ []
unfolding fitting
tables_unfit = refl

-- its epoch alone, under its lists; with an event's line in the carried bytes, and a byte past it
lone : FlatEpoch → Bool
unfolding fitting flat_epoch Fit.lent Fit.lone_epoch_fits
lone p =
    let b = laid file blank in
    Fit.lone_epoch_fits (flat_head file.head).lengths p
    (record {
      codes = b.codes;
      times = [];
      time_states = [];
      flags = [];
      counts = [];
      clocks = [];
      clock_states = [];
      satellites = b.satellites;
      numbers = b.numbers;
      states = b.states;
      losses = b.losses;
      strengths = b.strengths;
      carried = bytes "QUAY                                                        MARKER NAME" ++ (10 ∷ 32 ∷ []);
    })

abbrev timed : (flag count : ℕ) → FlatEpoch
timed flag count = record { time_state = 1; time = 14201567700000000; flag = flag; count = count; clock_state = 0; clock = pos 0 }

abbrev untimed : (flag count : ℕ) → FlatEpoch
untimed flag count = record { time_state = 0; time = 0; flag = flag; count = count; clock_state = 0; clock = pos 0 }

-- its two rows, and no third; an event with the line, with none and with two; no time where one is asked
alone : map lone (timed 0 2 ∷ timed 1 0 ∷ timed 0 3 ∷ timed 3 1 ∷ timed 3 0 ∷ timed 4 0 ∷ timed 3 2 ∷ untimed 4 1 ∷ untimed 5 1 ∷ untimed 0 2 ∷ timed 6 0 ∷ [])
    ≡ true ∷ true ∷ false ∷ true ∷ false ∷ true ∷ false ∷ true ∷ false ∷ false ∷ false ∷ []
unfolding lone
alone = refl

-- columns of it: C1C and L1C of G, C1C of R, and a code that no list has
column : (s : ℕ) → String → List ℕ
unfolding all_rows measured answer_at answers
column s code = map kind (answers file s (packed (bytes code)))

columns : (column 0 "C1C" ≡ 1 ∷ 6 ∷ []) × (column 0 "L1C" ≡ 2 ∷ 6 ∷ []) × (column 1 "C1C" ≡ 6 ∷ 5 ∷ []) × (column 0 "S1C" ≡ 6 ∷ 6 ∷ [])
unfolding column
columns = (refl, refl, refl, refl)

-- where there is no float: +0
plus_zero : thousandth (pos 0) ≡ fin false 0 (pos 0)
unfolding thousandth nearest_to round
plus_zero = refl
