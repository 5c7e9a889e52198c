-- Codes, names and the first observation as they are spelled. Assumes nothing.
use Prim.Native.Nat.{ℕ, zero, suc, ◌+◌, ◌*◌, ◌≤◌, ◌<◌}
use mathlib.Core.Path.{◌≡◌, refl, ap, ◌∙◌}
use mathlib.Core.List.{List, [], ◌∷◌, ◌++◌, append_assoc}
use native.Mathlib.Omega.{arith}
use lib.ListN.{length, get_or, drop, set, length-append, drop_of_length-le}
use lib.IntN.{pos}
use lib.Seq.{sets, drop-cons}
use Rattle.lists.proofs.Stores.{then}
use Rattle.rinex.specs.Codes.{time_systems}
use Rattle.rinex.specs.Fit.{unpacked}
use Rattle.rinex.specs.Normal.{first_body, spaced}
use Rattle.spell_header.specs.Codes.{codes_text}
use Rattle.spell_header.specs.Wide.{day_body}
use Rattle.lists.specs.Blank.{blanks}
use Rattle.write_field.specs.Normal.{whole, decimal}
use Rattle.moment.specs.declared.Date.{Date}
use Rattle.moment.specs.Moment.{Fit}
use Rattle.moment.proofs.Days.{day_31}
use Rattle.columns.proofs.Dates.{whole_long, ticks_long}

-- the name of a time system is three bytes
name_long : (y : ℕ) → y < 6 → length (get_or time_systems y []) ≡ 3
name_long zero h = refl
name_long (suc zero) h = refl
name_long (suc (suc zero)) h = refl
name_long (suc (suc (suc zero))) h = refl
name_long (suc (suc (suc (suc zero)))) h = refl
name_long (suc (suc (suc (suc (suc zero))))) h = refl
name_long (suc (suc (suc (suc (suc (suc y)))))) h = absurd (omega arith)

-- one code more
pub codes_more : (codes out x : List ℕ) (i : ℕ) → i < length codes → x ≡ sets out (6 + 4 * i) (32 ∷ unpacked (get_or codes i 0))
    → sets x (6 + 4 * (i + 1)) (codes_text (drop (i + 1) codes)) ≡ sets out (6 + 4 * i) (codes_text (drop i codes))
unfolding spaced
codes_more codes out x i h e =
    let g : i + 1 ≡ suc i = omega arith in
    then out x (6 + 4 * i) (6 + 4 * (i + 1)) (32 ∷ unpacked (get_or codes i 0)) (codes_text (drop (i + 1) codes)) e (omega arith)
    ∙ rw (g, drop-cons codes i 0 h)

pub codes_done : (codes out : List ℕ) (j i : ℕ) → length codes ≤ i → sets out j (codes_text (drop i codes)) ≡ out
unfolding spaced
codes_done codes out j i h = rw (drop_of_length-le codes h)

pub codes_long : (codes : List ℕ) → length (codes_text codes) ≡ 4 * length codes
unfolding spaced
codes_long [] = refl
codes_long (k ∷ ks) = omega (arith, codes_long ks)

-- the body of a list's first line
pub list_put : (l m1 m2 m3 o t : List ℕ) (b letter count : ℕ) → b ≡ letter → count < 1000 → m1 ≡ set l 0 b → m2 ≡ sets m1 1 (blanks 2) → m3 ≡ sets m2 3 (whole 3 count) → o ≡ sets m3 6 t
    → o ≡ sets l 0 (letter ∷ (blanks 2 ++ (whole 3 count ++ t)))
list_put l m1 m2 m3 o t b letter count q h e1 e2 e3 e4 =
    let n : length (whole 3 count) ≡ 3 = whole_long 3 count (omega arith) (omega arith) in
    let r : List ℕ = blanks 2 ++ (whole 3 count ++ t) in
    e4 ∙ (then m2 m3 3 6 (whole 3 count) t e3 (omega arith)
    ∙ (then m1 m2 1 3 (blanks 2) (whole 3 count ++ t) e2 refl
    ∙ (then l m1 0 1 (b ∷ []) r e1 refl ∙ ap (λ (x : ℕ). sets l 0 (x ∷ r)) q)))

pub list_short : (letter count n : ℕ) (t : List ℕ) → count < 1000 → n ≤ 13 → length t ≡ 4 * n → length (letter ∷ (blanks 2 ++ (whole 3 count ++ t))) ≤ 60
list_short letter count n t h k e =
    let m : length (whole 3 count ++ t) ≡ 3 + 4 * n = length-append (whole 3 count) t ∙ omega (arith, whole_long 3 count (omega arith) (omega arith)) in
    omega arith

-- the day of the first observation, field by field
module _ (d : Date) (f : Fit d) where
  pub day_put : (l m1 m2 m3 m4 o : List ℕ) → m1 ≡ sets l 0 (whole 6 d.year) → m2 ≡ sets m1 6 (whole 6 d.month) → m3 ≡ sets m2 12 (whole 6 d.day)
      → m4 ≡ sets m3 18 (whole 6 d.hour) → o ≡ sets m4 24 (whole 6 d.minute) → o ≡ sets l 0 (day_body d)
  day_put l m1 m2 m3 m4 o e1 e2 e3 e4 e5 =
      let t4 : List ℕ = whole 6 d.minute in
      let t3 : List ℕ = whole 6 d.hour ++ t4 in
      let t2 : List ℕ = whole 6 d.day ++ t3 in
      let n1 : length (whole 6 d.year) ≡ 6 = whole_long 6 d.year (omega arith) (omega (arith, f.year_to)) in
      let n2 : length (whole 6 d.month) ≡ 6 = whole_long 6 d.month (omega arith) (omega (arith, f.month_to)) in
      let n3 : length (whole 6 d.day) ≡ 6 = whole_long 6 d.day (omega arith) (omega (arith, day_31 d f)) in
      let n4 : length (whole 6 d.hour) ≡ 6 = whole_long 6 d.hour (omega arith) (omega (arith, f.hours)) in
      e5 ∙ (then m3 m4 18 24 (whole 6 d.hour) t4 e4 (omega arith)
      ∙ (then m2 m3 12 18 (whole 6 d.day) t3 e3 (omega arith)
      ∙ (then m1 m2 6 12 (whole 6 d.month) t2 e2 (omega arith)
      ∙ then l m1 0 6 (whole 6 d.year) (whole 6 d.month ++ t2) e1 (omega arith))))

-- the body of the first observation
pub first_put : (d : Date) → Fit d → (l m1 m2 m3 o names : List ℕ) → m1 ≡ sets l 0 (day_body d) → m2 ≡ sets m1 30 (decimal 13 7 (pos d.ticks)) → m3 ≡ sets m2 43 (blanks 5) → o ≡ sets m3 48 names
    → o ≡ sets l 0 (whole 6 d.year ++ (whole 6 d.month ++ (whole 6 d.day ++ (whole 6 d.hour ++ (whole 6 d.minute ++ (decimal 13 7 (pos d.ticks) ++ (blanks 5 ++ names)))))))
first_put d f l m1 m2 m3 o names e1 e2 e3 e4 =
    let s : List ℕ = decimal 13 7 (pos d.ticks) in
    let n1 : length (whole 6 d.year) ≡ 6 = whole_long 6 d.year (omega arith) (omega (arith, f.year_to)) in
    let n2 : length (whole 6 d.month) ≡ 6 = whole_long 6 d.month (omega arith) (omega (arith, f.month_to)) in
    let n3 : length (whole 6 d.day) ≡ 6 = whole_long 6 d.day (omega arith) (omega (arith, day_31 d f)) in
    let n4 : length (whole 6 d.hour) ≡ 6 = whole_long 6 d.hour (omega arith) (omega (arith, f.hours)) in
    let n5 : length (whole 6 d.minute) ≡ 6 = whole_long 6 d.minute (omega arith) (omega (arith, f.minutes)) in
    let n6 : length s ≡ 13 = ticks_long 13 d.ticks (omega arith) f.seconds in
    let n : length (day_body d) ≡ 30 = simp length-append (omega arith) in
    let r : List ℕ = s ++ (blanks 5 ++ names) in
    let a : day_body d ++ r ≡ whole 6 d.year ++ (whole 6 d.month ++ (whole 6 d.day ++ (whole 6 d.hour ++ (whole 6 d.minute ++ r)))) = simp append_assoc in
    e4 ∙ (then m2 m3 43 48 (blanks 5) names e3 refl
    ∙ (then m1 m2 30 43 s (blanks 5 ++ names) e2 (omega arith)
    ∙ (then l m1 0 30 (day_body d) r e1 (omega arith) ∙ ap (λ (v : List ℕ). sets l 0 v) a)))

pub first_short : (d : Date) (y : ℕ) → Fit d → y < 6 → length (first_body d y) ≤ 60
unfolding first_body
first_short d y f h =
    let n0 : length (get_or time_systems y []) ≡ 3 = name_long y h in
    let n1 : length (whole 6 d.year) ≡ 6 = whole_long 6 d.year (omega arith) (omega (arith, f.year_to)) in
    let n2 : length (whole 6 d.month) ≡ 6 = whole_long 6 d.month (omega arith) (omega (arith, f.month_to)) in
    let n3 : length (whole 6 d.day) ≡ 6 = whole_long 6 d.day (omega arith) (omega (arith, day_31 d f)) in
    let n4 : length (whole 6 d.hour) ≡ 6 = whole_long 6 d.hour (omega arith) (omega (arith, f.hours)) in
    let n5 : length (whole 6 d.minute) ≡ 6 = whole_long 6 d.minute (omega arith) (omega (arith, f.minutes)) in
    let n6 : length (decimal 13 7 (pos d.ticks)) ≡ 13 = ticks_long 13 d.ticks (omega arith) f.seconds in
    simp length-append (omega arith)
