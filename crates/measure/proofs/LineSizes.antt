-- How many bytes lines take with their LFs, and how long the lines of a header and of epoch records are. Assumes nothing.
use Prim.Native.Nat.{ℕ, zero, suc, ◌+◌, ◌-◌, ◌*◌, ◌/◌, ◌≤◌, ◌<◌}
use Prim.Native.String.{String}
use mathlib.Core.Path.{◌≡◌, refl, sym, ap, ◌∙◌}
use mathlib.Core.Bool.{false, cond}
use mathlib.Core.List.{List, [], ◌∷◌, ◌++◌, map, append_assoc}
use Rattle.std.specs.Prelude.{Option, None, Some}
use native.Mathlib.Omega.{arith}
use lib.Dec.{eqb}
use lib.IntN.{ℤ, pos}
use lib.ListN.{length, take, drop, length-append, length-replicate, length-drop}
use lib.Seq.{length-take-le}
use Rattle.lists.specs.Blank.{blanks, is_blank}
use Rattle.line.specs.Text.{text, cut}
use Rattle.label.specs.Labels.{padded}
use Rattle.write_field.specs.Normal.{digit, whole, decimal}
use Rattle.write_field.proofs.Written.{room_whole, whole_length, decimal_length}
use Rattle.rinex.specs.Normal.{line, version_line_of, list_line, next_line, next_lines_of, all_lists, first_line_of, interval_lines, epoch_time_text, epoch_body, epoch_line}
use Rattle.rinex.specs.Normal as normal
use Rattle.rinex.specs.Tables.{state_of}
use Rattle.rinex.proofs.WrittenFields.{FitsOrBlank}
use Rattle.rinex.proofs.Forms.{Timed}
use Rattle.rinex.proofs.NormalEpochs.{epoch_time_put}
use Rattle.measure.specs.Size.{list_line_count}
use Rattle.measure.proofs.Cuts.{cut_on, cut_off, Ends, cut_ends, ends_on, ends_whole, ends_decimal}

-- bytes of lines with their LFs
abbrev pub size : List (List ℕ) → ℕ
size [] = 0
size (l ∷ ls) = length l + 1 + size ls

pub length_text : (ls : List (List ℕ)) → length (text ls) ≡ size ls
length_text [] = refl
length_text (l ∷ ls) = length-append l (10 ∷ text ls) ∙ omega (arith, length_text ls)

pub size_on : (xs ys : List (List ℕ)) → size (xs ++ ys) ≡ size xs + size ys
size_on [] ys = omega arith
size_on (x ∷ xs) ys = omega (arith, size_on xs ys)

-- a header line: 60 columns and its label
line_length : (body : List ℕ) (label : String) (n : ℕ) → is_blank (padded label) ≡ false → length (cut (padded label)) ≡ n → length (line body label) ≡ 60 + n
unfolding line
line_length body label n h e =
    let k : length (body ++ blanks 60) ≡ length body + 60 = length-append body (blanks 60) ∙ ap (λ (x : ℕ). length body + x) (length-replicate {A = ℕ} 60 32) in
    ap length (cut_on (take 60 (body ++ blanks 60)) (padded label) h) ∙ (length-append (take 60 (body ++ blanks 60)) (cut (padded label)) ∙ omega (arith, e, length-take-le 60 (body ++ blanks 60) (omega (arith, k))))

pub version_length : (letter : ℕ) → length (version_line_of letter) ≡ 80
unfolding version_line_of cut padded
version_length letter = line_length _ "RINEX VERSION / TYPE" 20 refl refl

pub first_length : (t y : ℕ) → length (first_line_of t y) ≡ 77
unfolding first_line_of cut padded
first_length t y = line_length _ "TIME OF FIRST OBS" 17 refl refl

pub end_length : length (line [] "END OF HEADER") ≡ 73
unfolding cut padded
end_length = line_length [] "END OF HEADER" 13 refl refl

label_interval : (body : List ℕ) → length (line body "INTERVAL") ≡ 68
unfolding cut padded
label_interval body = line_length body "INTERVAL" 8 refl refl

pub interval_size : (o : Option ℕ) → size (interval_lines o) ≡ cond (eqb (state_of o) 0) 0 69
unfolding interval_lines
interval_size None = refl
interval_size (Some n) = ap (λ (x : ℕ). x + 1 + 0) (label_interval (decimal 10 3 (pos n)))

-- lists: each line has 79 columns
list_length : (s n : ℕ) (cs : List (List ℕ)) → length (list_line s n cs) ≡ 79
unfolding list_line cut padded
list_length s n cs = line_length _ "SYS / # / OBS TYPES" 19 refl refl

next_length : (cs : List (List ℕ)) → length (next_line cs) ≡ 79
unfolding next_line cut padded
next_length cs = line_length _ "SYS / # / OBS TYPES" 19 refl refl

next_size : (k : ℕ) (cs : List (List ℕ)) → length cs ≤ k → size (next_lines_of k cs) ≡ 80 * ((length cs + 12) / 13)
unfolding next_lines_of
next_size zero [] h = refl
next_size zero (c ∷ cs) h = absurd (omega (arith, h))
next_size (suc k) [] h = refl
next_size (suc k) (c ∷ cs) h =
    let d : length (drop 13 (c ∷ cs)) ≡ length (c ∷ cs) - 13 = length-drop 13 (c ∷ cs) in
    let r = next_size k (drop 13 (c ∷ cs)) (omega (arith, d, h)) in
    omega (arith, next_length (take 13 (c ∷ cs)), r, d)

list_size : (s : ℕ) (cs : List (List ℕ)) → size (normal.list_lines s cs) ≡ 80 * ((length cs + 12) / 13)
unfolding normal.list_lines
list_size s [] = refl
list_size s (c ∷ cs) =
    let d : length (drop 13 (c ∷ cs)) ≡ length (c ∷ cs) - 13 = length-drop 13 (c ∷ cs) in
    let r = next_size (length (c ∷ cs)) (drop 13 (c ∷ cs)) (omega (arith, d)) in
    omega (arith, list_length s (length (c ∷ cs)) (take 13 (c ∷ cs)), r, d)

pub lists_size : (s : ℕ) (lists : List (List (List ℕ))) → size (all_lists s lists) ≡ 80 * list_line_count (map (λ (cs : List (List ℕ)). length cs) lists)
unfolding all_lists
lists_size s [] = refl
lists_size s (cs ∷ css) = size_on (normal.list_lines s cs) (all_lists (s + 1) css) ∙ omega (arith, list_size s cs, lists_size (s + 1) css)

-- epoch records: up to the count, and then the clock
module _ (time : Option ℕ) (flag count : ℕ) (t : Timed time) (few : count < 1000) where
  front : List ℕ
  front = 62 ∷ (32 ∷ (epoch_time_text time ++ (blanks 2 ++ (digit flag ∷ whole 3 count))))

  front_ends : Ends front
  unfolding front
  front_ends = ends_on (62 ∷ 32 ∷ []) _ (ends_on (epoch_time_text time) _ (ends_on (32 ∷ 32 ∷ digit flag ∷ []) (whole 3 count) (ends_whole 2 count)))

  front_length : length front ≡ 35
  unfolding front
  front_length =
      let w : length (whole 3 count) ≡ 3 = whole_length 3 count (room_whole 3 count (record { column = omega arith; below = few })) in
      omega (arith, w, (epoch_time_put time t).long, length-append (epoch_time_text time) (blanks 2 ++ (digit flag ∷ whole 3 count)))

  behind_front : (rest : List ℕ) → 62 ∷ (32 ∷ (epoch_time_text time ++ (blanks 2 ++ (digit flag ∷ (whole 3 count ++ rest))))) ≡ front ++ rest
  unfolding front
  behind_front rest = ap (λ (x : List ℕ). 62 ∷ 32 ∷ x) (sym (append_assoc (epoch_time_text time) (blanks 2 ++ (digit flag ∷ whole 3 count)) rest))

  pub epoch_length : (clock : Option ℤ) → FitsOrBlank 15 12 clock → length (epoch_line time flag count clock) + 1 ≡ cond (eqb (state_of clock) 0) 36 57
  unfolding epoch_line epoch_body
  epoch_length None f =
      ap (λ (x : List ℕ). length (cut x) + 1) (behind_front (blanks 6 ++ blanks 15)) ∙ (ap (λ (x : List ℕ). length x + 1) (cut_off front (blanks 6 ++ blanks 15) refl ∙ cut_ends front front_ends) ∙ omega (arith, front_length))
  epoch_length (Some z) f =
      let e = ends_on front (blanks 6 ++ decimal 15 12 z) (ends_on (blanks 6) (decimal 15 12 z) (ends_decimal 15 11 z)) in
      ap (λ (x : List ℕ). length (cut x) + 1) (behind_front (blanks 6 ++ decimal 15 12 z))
      ∙ (ap (λ (x : List ℕ). length x + 1) (cut_ends _ e) ∙ omega (arith, front_length, length-append front (blanks 6 ++ decimal 15 12 z), decimal_length 15 12 z f))
