-- The epoch record as it is spelled, field by field. Assumes nothing.
use Prim.Native.Nat.{ℕ, zero, suc, ◌+◌, ◌<◌}
use mathlib.Core.Path.{◌≡◌, refl, sym, ap, ◌∙◌}
use mathlib.Core.List.{List, [], ◌∷◌, ◌++◌, append_assoc}
use Rattle.std.specs.Prelude.{Option, None, Some}
use native.Mathlib.Omega.{arith}
use borrow.Author.Tests.{ltb-true}
use lib.ListN.{length, length-append}
use lib.IntN.{ℤ, pos}
use lib.Seq.{sets}
use Rattle.lists.specs.Blank.{blanks}
use Rattle.lists.proofs.Stores.{then, sets_all}
use Rattle.write_field.specs.Normal.{whole, fixed, digit, decimal, decimal_fits, decimal_or_blank}
use Rattle.write_field.proofs.Written.{fixed_length}
use Rattle.moment.specs.declared.Date.{Date}
use Rattle.moment.specs.Moment.{Fit, instant}
use Rattle.moment.specs.Found.{date_at}
use Rattle.moment.proofs.DateAt.{date_there}
use Rattle.rinex.specs.Fit.{times_end, is_time}
use Rattle.rinex.specs.Normal.{time_text, epoch_time_text, epoch_body}
use Rattle.rinex.specs.Held.{optional}
use Rattle.columns.specs.Given.{FitsIf}
use Rattle.columns.proofs.States.{given_long}
use Rattle.columns.proofs.Dates.{whole_long, ticks_long, time_date}

-- a date of an epoch, field by field
module _ (d : Date) (f : Fit d) where
  abbrev two : ℕ → List ℕ
  two n = 32 ∷ fixed 2 n

  pub date_put : (l m1 m2 m3 m4 m5 o : List ℕ) (at : ℕ) → m1 ≡ sets l at (whole 4 d.year) → m2 ≡ sets m1 (at + 4) (two d.month) → m3 ≡ sets m2 (at + 7) (two d.day)
      → m4 ≡ sets m3 (at + 10) (two d.hour) → m5 ≡ sets m4 (at + 13) (two d.minute) → o ≡ sets m5 (at + 16) (decimal 11 7 (pos d.ticks)) → o ≡ sets l at (time_text d)
  unfolding time_text
  date_put l m1 m2 m3 m4 m5 o at e1 e2 e3 e4 e5 e6 =
      let t5 : List ℕ = decimal 11 7 (pos d.ticks) in
      let t4 : List ℕ = two d.minute ++ t5 in
      let t3 : List ℕ = two d.hour ++ t4 in
      let t2 : List ℕ = two d.day ++ t3 in
      let n1 : length (whole 4 d.year) ≡ 4 = whole_long 4 d.year (omega arith) (omega (arith, f.year_to)) in
      let n2 : length (fixed 2 d.month) ≡ 2 = fixed_length 2 d.month in
      let n3 : length (fixed 2 d.day) ≡ 2 = fixed_length 2 d.day in
      let n4 : length (fixed 2 d.hour) ≡ 2 = fixed_length 2 d.hour in
      let n5 : length (fixed 2 d.minute) ≡ 2 = fixed_length 2 d.minute in
      e6 ∙ (then m4 m5 (at + 13) (at + 16) (two d.minute) t5 e5 (omega arith)
      ∙ (then m3 m4 (at + 10) (at + 13) (two d.hour) t4 e4 (omega arith)
      ∙ (then m2 m3 (at + 7) (at + 10) (two d.day) t3 e3 (omega arith)
      ∙ (then m1 m2 (at + 4) (at + 7) (two d.month) t2 e2 (omega arith)
      ∙ then l m1 at (at + 4) (whole 4 d.year) (two d.month ++ t2) e1 (omega arith)))))

  date_long : length (time_text d) ≡ 27
  unfolding time_text fixed
  date_long =
      let n1 : length (whole 4 d.year) ≡ 4 = whole_long 4 d.year (omega arith) (omega (arith, f.year_to)) in
      let n5 : length (decimal 11 7 (pos d.ticks)) ≡ 11 = ticks_long 11 d.ticks (omega arith) f.seconds in
      simp length-append (omega arith)

-- a time, or blanks
pub time_blank : (l m : List ℕ) (at : ℕ) (o : Option ℕ) → o ≡ None → m ≡ sets l at (blanks 27) → m ≡ sets l at (epoch_time_text o)
unfolding epoch_time_text
time_blank l m at o h e = e ∙ ap (λ (q : Option ℕ). sets l at (epoch_time_text q)) (sym h)

pub time_put : (l m : List ℕ) (at : ℕ) (o : Option ℕ) (t : ℕ) (d : Date) → o ≡ Some t → Fit d × (t ≡ instant d) → m ≡ sets l at (time_text d) → m ≡ sets l at (epoch_time_text o)
unfolding epoch_time_text
time_put l m at o t d h k e = e ∙ (ap (λ (x : Date). sets l at (time_text x)) (sym (time_date t d k)) ∙ ap (λ (q : Option ℕ). sets l at (epoch_time_text q)) (sym h))

time_long : (s t : ℕ) → FitsIf s (is_time t) → length (epoch_time_text (optional s t)) ≡ 27
unfolding epoch_time_text
time_long zero t f = refl
time_long (suc s) t f = date_long (date_at t) (date_there t (ltb-true t times_end (f (λ e. omega arith)))).0

-- the flag and the count
abbrev pub counts : ℕ → ℕ → List ℕ
counts flag count = blanks 2 ++ (digit flag ∷ (whole 3 count ++ blanks 6))

pub counts_put : (l m1 m2 m3 o : List ℕ) (flag count : ℕ) → count < 1000 → m1 ≡ sets l 29 (blanks 2) → m2 ≡ sets m1 31 (digit flag ∷ []) → m3 ≡ sets m2 32 (whole 3 count) → o ≡ sets m3 35 (blanks 6)
    → o ≡ sets l 29 (counts flag count)
counts_put l m1 m2 m3 o flag count h e1 e2 e3 e4 =
    let n : length (whole 3 count) ≡ 3 = whole_long 3 count (omega arith) (omega arith) in
    e4 ∙ (then m2 m3 32 35 (whole 3 count) (blanks 6) e3 (omega arith)
    ∙ (then m1 m2 31 32 (digit flag ∷ []) (whole 3 count ++ blanks 6) e2 refl
    ∙ then l m1 29 31 (blanks 2) (digit flag ∷ (whole 3 count ++ blanks 6)) e1 refl))

-- the epoch record
pub epoch_put_lem : (l m1 m2 m3 o : List ℕ) (ts t flag count ks : ℕ) (k k' : ℤ) → k' ≡ k → length l ≡ 56 → count < 1000 → FitsIf ts (is_time t) → FitsIf ks (decimal_fits 15 12 k)
    → m1 ≡ sets l 0 (62 ∷ 32 ∷ []) → m2 ≡ sets m1 2 (epoch_time_text (optional ts t)) → m3 ≡ sets m2 29 (counts flag count) → o ≡ sets m3 41 (decimal_or_blank 15 12 (optional ks k'))
    → o ≡ epoch_body (epoch_time_text (optional ts t)) flag count (optional ks k)
unfolding epoch_body
epoch_put_lem l m1 m2 m3 o ts t flag count ks k k' q n h f g e1 e2 e3 e4 =
    let x : List ℕ = epoch_time_text (optional ts t) in
    let y : List ℕ = decimal_or_blank 15 12 (optional ks k) in
    let e4' : o ≡ sets m3 41 y = e4 ∙ ap (λ (v : ℤ). sets m3 41 (decimal_or_blank 15 12 (optional ks v))) q in
    let p1 : length x ≡ 27 = time_long ts t f in
    let p2 : length (whole 3 count) ≡ 3 = whole_long 3 count (omega arith) (omega arith) in
    let p3 : length y ≡ 15 = given_long 15 12 ks k g in
    let p4 : length (whole 3 count ++ blanks 6) ≡ 9 = length-append (whole 3 count) (blanks 6) ∙ omega arith in
    let r : List ℕ = counts flag count ++ y in
    let p5 : length (whole 3 count ++ (blanks 6 ++ y)) ≡ 24 = length-append (whole 3 count) (blanks 6 ++ y) ∙ omega arith in
    let z : List ℕ = blanks 2 ++ (digit flag ∷ (whole 3 count ++ (blanks 6 ++ y))) in
    let a : r ≡ z = ap (λ (v : List ℕ). blanks 2 ++ (digit flag ∷ v)) (append_assoc (whole 3 count) (blanks 6) y) in
    let m : length (62 ∷ 32 ∷ (x ++ z)) ≡ length l = ap (λ (v : ℕ). suc (suc v)) (length-append x z) ∙ omega arith in
    e4' ∙ (then m2 m3 29 41 (counts flag count) y e3 (omega arith)
    ∙ (ap (λ (v : List ℕ). sets m2 29 v) a
    ∙ (then m1 m2 2 29 x z e2 (omega arith)
    ∙ (then l m1 0 2 (62 ∷ 32 ∷ []) (x ++ z) e1 refl ∙ sets_all l (62 ∷ 32 ∷ (x ++ z)) m))))
