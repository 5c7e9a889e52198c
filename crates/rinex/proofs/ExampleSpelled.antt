-- The example text spells its file: the rule's records, filled in. Assumes nothing.
use Prim.Native.Nat.{ℕ}
use mathlib.Core.Path.{◌≡◌, refl}
use mathlib.Core.Bool.{Bool, true, false}
use mathlib.Core.List.{List, [], ◌∷◌, ◌++◌, map}
use Rattle.std.specs.Prelude.{None, Some}
use native.Mathlib.Omega.{arith}
use lib.Dec.{T, leb, leb→le}
use lib.ListN.{length}
use lib.IntN.{pos, negsuc}
use Rattle.lists.specs.Lists.{bytes}
use Rattle.lists.specs.Blank.{blanks}
use Rattle.field.specs.Field.{are_digits, value_of, Whole, Plain, sign, signed, Decimal, Second}
use Rattle.moment.specs.declared.Date.{Date}
use Rattle.moment.specs.Moment.{Fit, leap, year_days, month_days, sum_to, days, instant}
use Rattle.line.specs.Text.{text, col, cols, Line, are_plain, widest}
use Rattle.label.specs.Labels.{padded, known, among, label_of}
use Rattle.rinex.specs.Codes.{is_code, is_taken}
use Rattle.rinex.specs.CodeTable.{code_table, tabled}
use Rattle.rinex.specs.File.{Slot, Row, observed, File}
use Rattle.rinex.specs.Header.{VersionLine, CodeList, FirstLine, EndLine, a_list, a_first, HeaderLines}
use Rattle.rinex.specs.Data.{EpochLine, RowLine, DataLines}
use Rattle.rinex.specs.Spells.{Spells}
use Rattle.rinex.proofs.Examples.{header, epoch, file}

-- line k of the example, from 0
abbrev l0 : List ℕ
l0 = bytes "     3.03           OBSERVATION DATA    M                   RINEX VERSION / TYPE"

abbrev l1 : List ℕ
l1 = bytes "G    2 C1C L1C                                              SYS / # / OBS TYPES"

abbrev l2 : List ℕ
l2 = bytes "R    1 C1C                                                  SYS / # / OBS TYPES"

abbrev l3 : List ℕ
l3 = bytes "  2024    12    31    23    59   30.0000000     GPS         TIME OF FIRST OBS"

abbrev l4 : List ℕ
l4 = bytes "                                                            END OF HEADER"

abbrev l5 : List ℕ
l5 = bytes "> 2024 12 31 23 59 30.0000000  0  2"

abbrev l6 : List ℕ
l6 = bytes "G05  20000000.125 7        -0.5001"

abbrev l7 : List ℕ
l7 = bytes "R12"

abbrev c1c : List ℕ
c1c = bytes "C1C"

abbrev l1c : List ℕ
l1c = bytes "L1C"

-- its rows, the last one by its slot, and the text and the file with another last row
abbrev row_g : Row
row_g =
    record {
      system = 0;
      number = 5;
      slots =
          record { value = Some (pos 20000000125); loss = None; strength = Some 7 }
          ∷ record { value = Some (negsuc 499); loss = Some 1; strength = None }
          ∷ [];
    }

abbrev pub row_r : Slot → Row
row_r s = record { system = 1; number = 12; slots = s ∷ [] }

abbrev bare : Slot
bare = record { value = None; loss = None; strength = None }

abbrev pub text_with : List ℕ → List ℕ
text_with l = text (l0 ∷ l1 ∷ l2 ∷ l3 ∷ l4 ∷ l5 ∷ l6 ∷ l ∷ [])

abbrev pub file_with : Slot → File
file_with s =
    record {
      head = file.head;
      epochs = observed (record { time = 14201567700000000; flag = 0; clock = None; rows = row_g ∷ row_r s ∷ [] }) ∷ [];
    }

pub plain_line : (l : List ℕ) → are_plain l ≡ true → T (leb (length l) widest) → Line l
plain_line l p w = record { plain = p; width = leb→le (length l) widest w }

whole : (s : List ℕ) (n : ℕ) (ds : List ℕ) → s ≡ blanks n ++ ds → T (leb 1 (length ds)) → are_digits ds ≡ true → Whole s (value_of 0 ds)
whole s n ds e o d = record { lead = n; digits = ds; spelled = e; some_digit = leb→le 1 (length ds) o; all_digits = d; number = refl }

plain : (d : ℕ) (s w p : List ℕ) → s ≡ w ++ 46 ∷ p → are_digits (w ++ p) ≡ true → length p ≡ d → Plain d s (value_of 0 (w ++ p))
plain d s w p e h n = record { whole = w; part = p; spelled = e; all_digits = h; decimals = n; number = refl }

decimal : (d : ℕ) (s : List ℕ) (n : ℕ) (m : Bool) (w p : List ℕ) → s ≡ blanks n ++ (sign m ++ (w ++ 46 ∷ p)) → are_digits (w ++ p) ≡ true → length p ≡ d
    → Decimal d s (signed m (value_of 0 (w ++ p)))
decimal d s n m w p e h k =
    record { lead = n; minus = m; rest = w ++ 46 ∷ p; size = value_of 0 (w ++ p); spelled = e; plain = plain d (w ++ 46 ∷ p) w p refl h k; number = refl }

abbrev date : Date
date = record { year = 2024; month = 12; day = 31; hour = 23; minute = 59; ticks = 300000000 }

fit : Fit date
unfolding leap month_days
fit = omega arith

half_minute : (s : List ℕ) (n : ℕ) → s ≡ blanks n ++ bytes "30.0000000" → Second s 300000000
half_minute s n e =
    record {
      lead = n;
      rest = bytes "30.0000000";
      spelled = e;
      plain = record { whole = bytes "30"; part = bytes "0000000"; spelled = refl; all_digits = refl; decimals = refl; number = refl };
      one_digit = leb→le 1 2 tt;
      two_digits = leb→le 2 2 tt;
      below = leb→le 300000001 600000000 tt;
    }

at_date : instant date ≡ 14201567700000000
unfolding leap year_days month_days sum_to days instant
at_date = refl

version : VersionLine l0 77
unfolding col cols padded known among label_of
version = record { version = refl; gap = refl; observation = refl; letter_at = refl; letter_is = refl; label = refl; rest = refl }

list_g : CodeList (l1 ∷ []) 77 0 (c1c ∷ l1c ∷ [])
unfolding col cols padded known among label_of is_code is_taken tabled code_table
list_g =
    record {
      line = l1;
      next = [];
      lines = refl;
      first_line =
          record {
            letter = refl;
            system_is = leb→le 1 7 tt;
            gap = refl;
            count_at = whole (cols 4 6 l1) 2 (bytes "2") refl tt refl;
            codes_at = (refl, refl, refl, (refl, refl, refl, refl));
            label = refl;
            rest = refl;
          };
      next_lines = refl;
      some_code = leb→le 1 2 tt;
      few_codes = leb→le 2 64 tt;
      different = refl;
      allowed = refl;
    }

list_r : CodeList (l2 ∷ []) 77 1 (c1c ∷ [])
unfolding col cols padded known among label_of is_code is_taken tabled code_table
list_r =
    record {
      line = l2;
      next = [];
      lines = refl;
      first_line =
          record {
            letter = refl;
            system_is = leb→le 2 7 tt;
            gap = refl;
            count_at = whole (cols 4 6 l2) 2 (bytes "1") refl tt refl;
            codes_at = (refl, refl, refl, refl);
            label = refl;
            rest = refl;
          };
      next_lines = refl;
      some_code = leb→le 1 1 tt;
      few_codes = leb→le 1 64 tt;
      different = refl;
      allowed = refl;
    }

first : FirstLine l3 14201567700000000 0
unfolding col cols padded known among label_of at_date leap year_days month_days sum_to days instant
first =
    record {
      time_at =
          record {
            date = date;
            year = whole (cols 1 6 l3) 2 (bytes "2024") refl tt refl;
            month = whole (cols 7 12 l3) 4 (bytes "12") refl tt refl;
            day = whole (cols 13 18 l3) 4 (bytes "31") refl tt refl;
            hour = whole (cols 19 24 l3) 4 (bytes "23") refl tt refl;
            minute = whole (cols 25 30 l3) 4 (bytes "59") refl tt refl;
            second = half_minute (cols 31 43 l3) 3 refl;
            fit = fit;
            time = refl;
          };
      gap = refl;
      time_system_at = refl;
      time_system_is = leb→le 1 6 tt;
      gap_2 = refl;
      label = refl;
      rest = refl;
    }

end_line : EndLine l4
unfolding col cols padded known among label_of
end_line = record { blank = refl; label = refl; rest = refl }

header_spelled : HeaderLines (l0 ∷ l1 ∷ l2 ∷ l3 ∷ l4 ∷ []) file.head
header_spelled =
    record {
      version = l0;
      groups = (l1 ∷ []) ∷ (l2 ∷ []) ∷ (l3 ∷ []) ∷ [];
      end = l4;
      lines = refl;
      version_line = version;
      entries = a_list 0 (c1c ∷ l1c ∷ []) ∷ a_list 1 (c1c ∷ []) ∷ a_first 14201567700000000 0 ∷ [];
      entered = (list_g, (list_r, ((l3, refl, first), tt)));
      end_line = end_line;
      systems = refl;
      lists = (refl, (refl, (refl, (refl, (refl, (refl, (refl, tt)))))));
      some_list = leb→le 1 3 tt;
      first = refl;
      interval = refl;
      carried = refl;
    }

epoch_line_lem : EpochLine l5 (Some 14201567700000000) 0 2 None
unfolding col cols leap year_days month_days sum_to days instant
epoch_line_lem =
    record {
      mark = refl;
      gap = refl;
      time_at =
          record {
            time =
                record {
                  date = date;
                  year = whole (cols 3 6 l5) 0 (bytes "2024") refl tt refl;
                  month = whole (cols 8 9 l5) 0 (bytes "12") refl tt refl;
                  day = whole (cols 11 12 l5) 0 (bytes "31") refl tt refl;
                  hour = whole (cols 14 15 l5) 0 (bytes "23") refl tt refl;
                  minute = whole (cols 17 18 l5) 0 (bytes "59") refl tt refl;
                  second = half_minute (cols 19 29 l5) 1 refl;
                  fit = fit;
                  time = refl;
                };
            gap_7 = refl;
            gap_10 = refl;
            gap_13 = refl;
            gap_16 = refl;
          };
      gap_2 = refl;
      flag_at = refl;
      count_at = whole (cols 33 35 l5) 2 (bytes "2") refl tt refl;
      gap_3 = refl;
      clock_at = refl;
      rest = refl;
    }

row_g_lem : RowLine file.head.lists l6 row_g
unfolding col cols
row_g_lem =
    record {
      letter = refl;
      system = leb→le 1 7 tt;
      digits = refl;
      number = refl;
      not_zero = leb→le 1 5 tt;
      declared = leb→le 1 2 tt;
      one_each = refl;
      slots = (
        record { value = record { printed = Some (pos 20000000125); columns = decimal 3 (cols 4 17 l6) 2 false (bytes "20000000") (bytes "125") refl refl refl; held = refl }; loss = refl; strength = (refl, leb→le 7 9 tt) },
        (
          record { value = record { printed = Some (negsuc 499); columns = decimal 3 (cols 20 33 l6) 8 true (bytes "0") (bytes "500") refl refl refl; held = refl }; loss = (refl, leb→le 1 7 tt); strength = refl },
          refl,
        ),
      );
    }

row_r_lem : RowLine file.head.lists l7 (row_r bare)
unfolding col cols
row_r_lem =
    record {
      letter = refl;
      system = leb→le 2 7 tt;
      digits = refl;
      number = refl;
      not_zero = leb→le 1 12 tt;
      declared = leb→le 1 1 tt;
      one_each = refl;
      slots = (record { value = record { printed = None; columns = refl; held = refl }; loss = refl; strength = refl }, refl);
    }

-- the example with another line for its last row
module _ (l : List ℕ) (s : Slot) (plain : Line l) (row : RowLine file.head.lists l (row_r s)) where
  epochs_spelled : DataLines file.head.lists (l5 ∷ l6 ∷ l ∷ []) (file_with s).epochs
  epochs_spelled =
      record {
        groups = (l5 ∷ l6 ∷ l ∷ []) ∷ [];
        lines = refl;
        epochs = (record { flag = leb→le 0 1 tt; line = epoch_line_lem; rows = (row_g_lem, (row, tt)); apart = refl }, tt);
        order = refl;
      }

  pub spelled_with : Spells (text_with l) (file_with s)
  spelled_with =
      record {
        header_lines = l0 ∷ l1 ∷ l2 ∷ l3 ∷ l4 ∷ [];
        data_lines = l5 ∷ l6 ∷ l ∷ [];
        whole = refl;
        lines = (
          plain_line l0 refl tt,
          (
            plain_line l1 refl tt,
            (
              plain_line l2 refl tt,
              (
                plain_line l3 refl tt,
                (
                  plain_line l4 refl tt,
                  (plain_line l5 refl tt, (plain_line l6 refl tt, (plain, tt))),
                ),
              ),
            ),
          ),
        );
        header = header_spelled;
        epochs = epochs_spelled;
      }

pub example_spelled : Spells (text (map bytes (header ++ epoch))) file
example_spelled = spelled_with l7 bare (plain_line l7 refl tt) row_r_lem
