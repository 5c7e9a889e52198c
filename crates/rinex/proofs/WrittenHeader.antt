-- The written lines of a header are spelled by their rules. Assumes nothing.
use Prim.Native.Nat.{ℕ, ◌+◌, ◌-◌, ◌*◌, ◌≤◌, ◌<◌}
use Prim.Native.String.{String}
use mathlib.Core.Path.{◌≡◌, refl, sym, ap, ◌∙◌}
use mathlib.Core.Bool.{true}
use mathlib.Core.List.{List, [], ◌∷◌, ◌++◌, append-nil}
use native.Mathlib.Omega.{arith}
use lib.IntN.{pos}
use lib.ListN.{length, get_or, drop, length-append, length-drop}
use Rattle.lists.specs.Lists.{bytes, All}
use Rattle.lists.specs.Blank.{blanks}
use Rattle.write_field.specs.Normal.{whole, decimal, decimal_fits, whole_fits}
use Rattle.write_field.proofs.Written.{whole_spelled, whole_length, decimal_spelled, decimal_length, second_spelled, second_fits, room_whole}
use Rattle.moment.specs.declared.Date.{Date}
use Rattle.moment.specs.Moment.{Fit, instant}
use Rattle.moment.proofs.DateAt.{date_at_lem}
use Rattle.moment.proofs.Days.{day_31}
use Rattle.line.specs.Text.{are_plain, Line, col, cols}
use Rattle.label.specs.Labels.{padded, known, among}
use Rattle.line.proofs.Columns.{on, col_at, plain_append, plain_byte, in_plain}
use Rattle.rinex.specs.Codes.{letter_of, time_systems, is_file_letter}
use Rattle.rinex.specs.Header.{VersionLine, Codes, ListLine, NextLine, FirstLine, IntervalLine, EndLine}
use Rattle.rinex.specs.Normal.{line, version_line_of, spaced, list_line, next_line, first_body, first_line_of}
use Rattle.rinex.proofs.Laws.{below_six, below_seven}
use Rattle.rinex.proofs.Columns.{line_cols, line_col, line_rest, line_label, line_line, seen, unseen}
use Rattle.rinex.proofs.WrittenFields.{Put, put_append, put_blanks, whole_put, decimal_put}
use Rattle.rinex.proofs.Forms.{IsTaken, taken_form}

-- RINEX VERSION / TYPE
pub version_line : (letter : ℕ) → is_file_letter letter ≡ true → VersionLine (version_line_of letter) letter
unfolding version_line_of cols col padded known among
version_line letter h =
    let body : List ℕ = bytes "     3.03           OBSERVATION DATA    " ++ (letter ∷ []) in
    let label : String = "RINEX VERSION / TYPE" in
    record {
      version = line_cols body label 1 9 (omega arith) (omega arith);
      gap = rw (line_cols body label 10 20 (omega arith) (omega arith));
      observation = line_col body label 21 (omega arith) (omega arith);
      letter_at = line_col body label 41 (omega arith) (omega arith);
      letter_is = h;
      label = line_label body label;
      rest = line_rest body label;
    }

pub version_is_line : (letter : ℕ) → is_file_letter letter ≡ true → Line (version_line_of letter)
unfolding version_line_of padded
version_is_line letter h =
    let p = in_plain letter (bytes "GREJCISM") h refl in
    line_line (bytes "     3.03           OBSERVATION DATA    " ++ (letter ∷ [])) "RINEX VERSION / TYPE" (plain_byte letter [] p.0 p.1 refl) refl

-- END OF HEADER
pub end_line : EndLine (line [] "END OF HEADER")
unfolding padded known among
end_line =
    record {
      blank = unseen [] "END OF HEADER" 1 60 (omega arith) (omega arith) (omega arith);
      label = line_label [] "END OF HEADER";
      rest = line_rest [] "END OF HEADER";
    }

pub end_is_line : Line (line [] "END OF HEADER")
unfolding padded
end_is_line = line_line [] "END OF HEADER" refl refl

-- INTERVAL
module _ (n : ℕ) (fits : decimal_fits 10 3 (pos n) ≡ true) where
  interval_put : Put 10 (decimal 10 3 (pos n))
  interval_put = decimal_put 10 3 (pos n) fits

  pub interval_line : 0 < n → IntervalLine (line (decimal 10 3 (pos n)) "INTERVAL") n
  unfolding padded known among
  interval_line h =
      let body : List ℕ = decimal 10 3 (pos n) in
      record {
        interval = rw (seen body "INTERVAL" 1 10 body [] (omega arith) (omega arith) (sym (append-nil body)) interval_put.long)
            (decimal_spelled 10 3 (pos n) fits);
        above = h;
        gap = unseen body "INTERVAL" 11 60 (omega arith) (omega arith) (omega (arith, interval_put.long));
        label = line_label body "INTERVAL";
        rest = line_rest body "INTERVAL";
      }

  pub interval_is_line : Line (line (decimal 10 3 (pos n)) "INTERVAL")
  unfolding padded
  interval_is_line = line_line (decimal 10 3 (pos n)) "INTERVAL" interval_put.bytes refl

-- TIME OF FIRST OBS
system_put : (y : ℕ) → y < 6 → Put 3 (get_or time_systems y [])
system_put y h =
    record {
      long = below_six (λ s. length (get_or time_systems s []) ≡ 3) (refl, (refl, (refl, (refl, (refl, (refl, tt)))))) y h;
      bytes = below_six (λ s. are_plain (get_or time_systems s []) ≡ true) (refl, (refl, (refl, (refl, (refl, (refl, tt)))))) y h;
    }

module _ (d : Date) (f : Fit d) (y : ℕ) (is-system : y < 6) where
  year_fits : whole_fits 6 d.year ≡ true
  year_fits = room_whole 6 d.year (omega arith)

  month_fits : whole_fits 6 d.month ≡ true
  month_fits = room_whole 6 d.month (omega arith)

  day_fits : whole_fits 6 d.day ≡ true
  day_fits = room_whole 6 d.day (omega (arith, day_31 d f))

  hour_fits : whole_fits 6 d.hour ≡ true
  hour_fits = room_whole 6 d.hour (omega arith)

  minute_fits : whole_fits 6 d.minute ≡ true
  minute_fits = room_whole 6 d.minute (omega arith)

  ticks_fit : decimal_fits 13 7 (pos d.ticks) ≡ true
  ticks_fit = second_fits 13 d.ticks (omega arith) f.seconds

  first_at : FirstLine (line (first_body d y) "TIME OF FIRST OBS") (instant d) y
  unfolding first_body padded known among
  first_at =
      let body : List ℕ = first_body d y in
      let label : String = "TIME OF FIRST OBS" in
      let e1 = on 0 6 body (whole 6 d.year) _ refl (whole_length 6 d.year year_fits) in
      let e2 = on 6 6 body (whole 6 d.month) _ e1 (whole_length 6 d.month month_fits) in
      let e3 = on 12 6 body (whole 6 d.day) _ e2 (whole_length 6 d.day day_fits) in
      let e4 = on 18 6 body (whole 6 d.hour) _ e3 (whole_length 6 d.hour hour_fits) in
      let e5 = on 24 6 body (whole 6 d.minute) _ e4 (whole_length 6 d.minute minute_fits) in
      let e6 = on 30 13 body (decimal 13 7 (pos d.ticks)) _ e5 (decimal_length 13 7 (pos d.ticks) ticks_fit) in
      let e7 : drop 48 body ≡ get_or time_systems y [] = on 43 5 body (blanks 5) _ e6 refl in
      record {
        time_at = record {
          date = d;
          year = rw (seen body label 1 6 (whole 6 d.year) _ (omega arith) (omega arith) refl (whole_length 6 d.year year_fits)) (whole_spelled 6 d.year year_fits);
          month = rw (seen body label 7 12 (whole 6 d.month) _ (omega arith) (omega arith) e1 (whole_length 6 d.month month_fits)) (whole_spelled 6 d.month month_fits);
          day = rw (seen body label 13 18 (whole 6 d.day) _ (omega arith) (omega arith) e2 (whole_length 6 d.day day_fits)) (whole_spelled 6 d.day day_fits);
          hour = rw (seen body label 19 24 (whole 6 d.hour) _ (omega arith) (omega arith) e3 (whole_length 6 d.hour hour_fits)) (whole_spelled 6 d.hour hour_fits);
          minute = rw (seen body label 25 30 (whole 6 d.minute) _ (omega arith) (omega arith) e4 (whole_length 6 d.minute minute_fits)) (whole_spelled 6 d.minute minute_fits);
          second = rw (seen body label 31 43 (decimal 13 7 (pos d.ticks)) _ (omega arith) (omega arith) e5 (decimal_length 13 7 (pos d.ticks) ticks_fit)) (second_spelled 13 d.ticks (omega arith) f.seconds);
          fit = f;
          time = refl;
        };
        gap = rw (seen body label 44 48 (blanks 5) _ (omega arith) (omega arith) e6 refl);
        time_system_at = seen body label 49 51 (get_or time_systems y []) [] (omega arith) (omega arith) (e7 ∙ sym (append-nil (get_or time_systems y []))) (system_put y is-system).long;
        time_system_is = is-system;
        gap_2 = unseen body label 52 60 (omega arith) (omega arith) (omega (arith, (system_put y is-system).long, length-drop 48 body, ap length e7));
        label = line_label body label;
        rest = line_rest body label;
      }

  first_put : Put 51 (first_body d y)
  unfolding first_body
  first_put =
      put_append (whole_put 6 d.year year_fits)
      (put_append (whole_put 6 d.month month_fits)
      (put_append (whole_put 6 d.day day_fits)
      (put_append (whole_put 6 d.hour hour_fits)
      (put_append (whole_put 6 d.minute minute_fits)
      (put_append (decimal_put 13 7 (pos d.ticks) ticks_fit) (put_append (put_blanks 5) (system_put y is-system)))))))

  pub first_line : (t : ℕ) → t ≡ instant d → FirstLine (first_line_of t y) t y
  unfolding first_line_of
  first_line t e = rw (e, date_at_lem d f) first_at

  pub first_is_line : (t : ℕ) → t ≡ instant d → Line (first_line_of t y)
  unfolding first_line_of padded
  first_is_line t e = rw (e, date_at_lem d f) (line_line (first_body d y) "TIME OF FIRST OBS" first_put.bytes refl)

-- codes that are taken under a system
abbrev pub Taken : ℕ → List (List ℕ) → Type 0
Taken s cs = All (IsTaken s) cs

spaced_put : (s : ℕ) (cs : List (List ℕ)) → Taken s cs → Put (4 * length cs) (spaced cs)
unfolding spaced
spaced_put s [] h = record { long = refl; bytes = refl }
spaced_put s (c ∷ cs) h =
    let p = taken_form s c h.0 in
    let q = spaced_put s cs h.1 in
    record {
      long = let e = length-append c (spaced cs) in omega (arith, e, p.long, q.long);
      bytes = plain_append c (spaced cs) p.bytes q.bytes;
    }

codes_at : (body : List ℕ) (label : String) (s a : ℕ) (cs : List (List ℕ)) → 1 ≤ a → a + 4 * length cs ≤ 61 → Taken s cs
    → drop (a - 1) body ≡ spaced cs → Codes s a (line body label) cs
unfolding spaced
codes_at body label s a [] p q h e = unseen body label a 60 p (omega arith) (omega (arith, length-drop (a - 1) body, ap length e))
codes_at body label s a (c ∷ cs) p q h e =
    let i : a - 1 + 1 ≡ a + 1 - 1 = omega arith in
    let j : a + 1 - 1 + 3 ≡ a + 4 - 1 = omega arith in
    let e1 : drop (a + 1 - 1) body ≡ c ++ spaced cs = rw i at (on (a - 1) 1 body (32 ∷ []) (c ++ spaced cs) e refl) in
    let e2 : drop (a + 4 - 1) body ≡ spaced cs = rw j at (on (a + 1 - 1) 3 body c (spaced cs) e1 (taken_form s c h.0).long) in (
      line_col body label a p (omega arith) ∙ col_at a body 32 (c ++ spaced cs) e,
      seen body label (a + 1) (a + 3) c (spaced cs) (omega arith) (omega arith) e1 (omega (arith, (taken_form s c h.0).long)),
      h.0,
      codes_at body label s (a + 4) cs (omega arith) (omega arith) h.1 e2,
    )

pub letter_plain : (s : ℕ) → s < 7 → (32 ≤ letter_of s) × (letter_of s ≤ 126)
letter_plain = below_seven (λ s. (32 ≤ letter_of s) × (letter_of s ≤ 126)) (
  (omega arith, omega arith),
  (
    (omega arith, omega arith),
    (
      (omega arith, omega arith),
      (
        (omega arith, omega arith),
        ((omega arith, omega arith), ((omega arith, omega arith), ((omega arith, omega arith), tt))),
      ),
    ),
  ),
)

module _ (s : ℕ) (cs : List (List ℕ)) (few : length cs ≤ 13) (taken : Taken s cs) where
  pub next_line_lem : NextLine (next_line cs) s cs
  unfolding next_line padded known among
  next_line_lem =
      let body : List ℕ = blanks 6 ++ spaced cs in
      let label : String = "SYS / # / OBS TYPES" in
      record {
        gap = rw (seen body label 1 6 (blanks 6) (spaced cs) (omega arith) (omega arith) refl refl);
        codes_at = codes_at body label s 7 cs (omega arith) (omega arith) taken refl;
        label = line_label body label;
        rest = line_rest body label;
      }

  pub next_is_line : Line (next_line cs)
  unfolding next_line padded
  next_is_line = line_line (blanks 6 ++ spaced cs) "SYS / # / OBS TYPES" (put_append (put_blanks 6) (spaced_put s cs taken)).bytes refl

  module _ (is-system : s < 7) (count : ℕ) (fits : whole_fits 3 count ≡ true) where
    pub list_line_lem : ListLine (list_line s count cs) s count cs
    unfolding list_line padded known among
    list_line_lem =
        let body : List ℕ = letter_of s ∷ (blanks 2 ++ (whole 3 count ++ spaced cs)) in
        let label : String = "SYS / # / OBS TYPES" in
        let e : drop 6 body ≡ spaced cs = on 3 3 body (whole 3 count) (spaced cs) refl (whole_length 3 count fits) in
        record {
          letter = line_col body label 1 (omega arith) (omega arith) ∙ col_at 1 body (letter_of s) _ refl;
          system_is = is-system;
          gap = rw (seen body label 2 3 (blanks 2) _ (omega arith) (omega arith) refl refl);
          count_at = rw (seen body label 4 6 (whole 3 count) (spaced cs) (omega arith) (omega arith) refl (whole_length 3 count fits))
              (whole_spelled 3 count fits);
          codes_at = codes_at body label s 7 cs (omega arith) (omega arith) taken e;
          label = line_label body label;
          rest = line_rest body label;
        }

    pub list_is_line : Line (list_line s count cs)
    unfolding list_line padded
    list_is_line =
        let l = letter_plain s is-system in
        line_line (letter_of s ∷ (blanks 2 ++ (whole 3 count ++ spaced cs))) "SYS / # / OBS TYPES"
        (plain_byte (letter_of s) (blanks 2 ++ (whole 3 count ++ spaced cs)) l.0 l.1 (put_append (put_blanks 2) (put_append (whole_put 3 count fits) (spaced_put s cs taken))).bytes) refl
