-- Epoch records: what the tests find is what the line spells. Assumes nothing.
use Prim.Native.Nat.{ℕ, zero, suc, ◌+◌, ◌≤◌}
use mathlib.Core.Path.{◌≡◌, refl, ap, sym, ◌∙◌}
use mathlib.Core.Bool.{Bool, true, false, cond, not, ◌&&◌, ◌||◌}
use mathlib.Core.List.{List, [], ◌∷◌, ◌++◌}
use Rattle.std.specs.Prelude.{Option, None, Some}
use native.Mathlib.Omega.{arith}
use lib.Dec.{eqb, leb}
use lib.IntN.{ℤ}
use lib.ListN.{take, drop}
use borrow.Author.Tests.{eqb-true, eq-eqb, leb-true, le-leb}
use Rattle.lists.specs.Lists.{byte}
use Rattle.lists.specs.Blank.{Blank, is_blank, blanks}
use Rattle.lists.specs.Maybe.{is_given, given}
use Rattle.lists.proofs.Bools.{never, both, all_of, Either, left, right, or_either, or_right}
use Rattle.lists.proofs.Maybe.{none_some, none_found, given_some}
use Rattle.lists.proofs.Every.{every_replicate, every_take}
use Rattle.field.specs.Field.{DecimalOrBlank, is_digit}
use Rattle.field.specs.Found.{whole_of, decimal_of}
use Rattle.field.proofs.Found.{whole_found, whole_back, blank_not_whole, decimal_back, decimal_blank, decimal_or_blank_lem, decimal_or_blank_is}
use Rattle.moment.proofs.Times.{time_found, time_back}
use Rattle.line.specs.Text.{col, cols, past}
use Rattle.rinex.specs.File.{Observed, Event}
use Rattle.rinex.specs.Data.{EpochTime, EpochTimeOrBlank, EpochLine, ObservedLines, EventLines, TimeAsked}
use Rattle.rinex.specs.Tests.{flag_at, count_at, epoch_time, is_event, time_fits, clock_fits, epoch_fits, time_columns}

-- what is blank is blank in its first columns
front_blank : (x : List ℕ) (m k i j : ℕ) → k ≤ m → is_blank (take m (x ++ blanks i)) ≡ true → is_blank (take k (x ++ blanks j)) ≡ true
front_blank [] m k i j h e = every_take (λ b. eqb b 32) k (blanks j) (every_replicate (λ b. eqb b 32) j 32 refl)
front_blank (b ∷ x) m zero i j h e = refl
front_blank (b ∷ x) zero (suc k) i j h e = absurd (omega arith)
front_blank (b ∷ x) (suc m) (suc k) i j h e =
    let p = both (eqb b 32) _ e in
    rw p.0 (front_blank x m k i j (omega arith) p.1)

-- times
chosen : {A : Type 0} (b : Bool) (o : Option A) (x : A) → cond b o None ≡ Some x → (b ≡ true) × (o ≡ Some x)
chosen true o x e = (refl, e)
chosen false o x e = absurd (none_some x e)

epoch_time_found : (l : List ℕ) (t : ℕ) → epoch_time l ≡ Some t → EpochTime l t
unfolding epoch_time
epoch_time_found l t e =
    let p = chosen (eqb (col 7 l) 32 && (eqb (col 10 l) 32 && (eqb (col 13 l) 32 && eqb (col 16 l) 32))) (time_columns l) t e in
    let a = both (eqb (col 7 l) 32) _ p.0 in
    let b = both (eqb (col 10 l) 32) _ a.1 in
    let c = both (eqb (col 13 l) 32) _ b.1 in
    record { time = time_found _ _ _ _ _ _ t p.1; gap_7 = eqb-true _ _ a.0; gap_10 = eqb-true _ _ b.0; gap_13 = eqb-true _ _ c.0; gap_16 = eqb-true _ _ c.1 }

epoch_time_back : (l : List ℕ) (t : ℕ) → EpochTime l t → epoch_time l ≡ Some t
unfolding epoch_time
epoch_time_back l t q = rw (eq-eqb _ _ q.gap_7, eq-eqb _ _ q.gap_10, eq-eqb _ _ q.gap_13, eq-eqb _ _ q.gap_16) (time_back _ _ _ _ _ _ t q.time)

blank_not_time : (l : List ℕ) (t : ℕ) → Blank (cols 3 29 l) → EpochTime l t → ⊥
unfolding cols
blank_not_time l t b q = blank_not_whole (cols 3 6 l) q.time.date.year (front_blank (drop 2 l) 27 4 27 4 (omega arith) b) q.time.year

blank_time : (l : List ℕ) → Blank (cols 3 29 l) → epoch_time l ≡ None
blank_time l b = none_found (epoch_time l) (λ t e. blank_not_time l t b (epoch_time_found l t e))

-- which times and clocks go with a flag
abbrev pub clock_at : List ℕ → Option ℤ
clock_at l = decimal_of 12 (cols 42 56 l)

pub record Suits (flag : ℕ) (time : Option ℕ) (clock : Option ℤ) : Type 0 where
  pub known : flag ≤ 5
  pub timed : time ≡ None → (2 ≤ flag) × (flag ≤ 4)
  pub clocked : 2 ≤ flag → clock ≡ None

module _ (l : List ℕ) (flag : ℕ) where
  time_fits_found : time_fits flag l ≡ true → EpochTimeOrBlank l (epoch_time l) × (epoch_time l ≡ None → (2 ≤ flag) × (flag ≤ 4))
  unfolding time_fits
  time_fits_found h = go (epoch_time l) refl (or_either (is_given (epoch_time l)) _ h)
    where
      go : (o : Option ℕ) → epoch_time l ≡ o → Either (is_given (epoch_time l) ≡ true) ((leb 2 flag && (leb flag 4 && is_blank (cols 3 29 l))) ≡ true)
          → EpochTimeOrBlank l o × (o ≡ None → (2 ≤ flag) × (flag ≤ 4))
      go None e (left g) = let p = given_some (epoch_time l) g in absurd (none_some p.0 (sym e ∙ p.1))
      go None e (right b) =
          let p = both (leb 2 flag) _ b in
          let q = both (leb flag 4) _ p.1 in
          (q.1, λ z. (leb-true _ _ p.0, leb-true _ _ q.0))
      go (Some t) e x = (epoch_time_found l t e, λ z. absurd (none_some t (sym z)))

  time_fits_back : (time : Option ℕ) → EpochTimeOrBlank l time → (time ≡ None → (2 ≤ flag) × (flag ≤ 4)) → (time_fits flag l ≡ true) × (epoch_time l ≡ time)
  unfolding time_fits
  time_fits_back None b h =
      let p = h refl in
      (or_right (is_given (epoch_time l)) _ (rw (le-leb 2 flag p.0, le-leb flag 4 p.1) b), blank_time l b)
  time_fits_back (Some t) q h = let e = epoch_time_back l t q in (rw e, e)

  clock_fits_found : flag ≤ 5 → clock_fits flag l ≡ true → DecimalOrBlank 12 (cols 42 56 l) (clock_at l) × (2 ≤ flag → clock_at l ≡ None)
  unfolding clock_fits
  clock_fits_found k h = go (or_either (is_blank (cols 42 56 l)) _ h)
    where
      go : Either (is_blank (cols 42 56 l) ≡ true) ((not (is_event flag) && is_given (clock_at l)) ≡ true) → DecimalOrBlank 12 (cols 42 56 l) (clock_at l) × (2 ≤ flag → clock_at l ≡ None)
      go (left b) = (rw (decimal_blank 12 (cols 42 56 l) b) b, λ z. decimal_blank 12 (cols 42 56 l) b)
      go (right g) =
          let p = both (not (is_event flag)) _ g in
          (decimal_or_blank_lem 12 (cols 42 56 l) (or_right (is_blank (cols 42 56 l)) _ p.1), λ z. absurd (never (rw (le-leb 2 flag z, le-leb flag 5 k) at p.0)))

  clock_fits_back : (clock : Option ℤ) → DecimalOrBlank 12 (cols 42 56 l) clock → (2 ≤ flag → clock ≡ None) → clock_fits flag l ≡ true
  unfolding clock_fits
  clock_fits_back None b h = rw b
  clock_fits_back (Some z) q h = go (leb 2 flag) refl
    where
      go : (c : Bool) → leb 2 flag ≡ c → (is_blank (cols 42 56 l) || (not (is_event flag) && is_given (clock_at l))) ≡ true
      go true e = absurd (none_some z (sym (h (leb-true 2 flag e))))
      go false e = or_right (is_blank (cols 42 56 l)) _ (rw (e, decimal_back 12 (cols 42 56 l) z q))

-- the tests of an epoch record, but for the columns past 56
pub record Front (l : List ℕ) : Type 0 where
  pub mark : col 1 l ≡ byte ">"
  pub gap : col 2 l ≡ 32
  pub time : time_fits (flag_at l) l ≡ true
  pub gap_2 : Blank (cols 30 31 l)
  pub low : 48 ≤ col 32 l
  pub high : col 32 l ≤ 57
  pub count : is_given (whole_of (cols 33 35 l)) ≡ true
  pub gap_3 : Blank (cols 36 41 l)
  pub clock : clock_fits (flag_at l) l ≡ true

pub front : (l : List ℕ) → epoch_fits l ≡ true → Front l × Blank (past 56 l)
unfolding epoch_fits
front l h =
    let a = both (eqb (col 1 l) (byte ">")) _ h in
    let b = both (eqb (col 2 l) 32) _ a.1 in
    let c = both (time_fits (flag_at l) l) _ b.1 in
    let d = both (is_blank (cols 30 31 l)) _ c.1 in
    let e = both (is_digit (col 32 l)) _ d.1 in
    let f = both (is_given (whole_of (cols 33 35 l))) _ e.1 in
    let g = both (is_blank (cols 36 41 l)) _ f.1 in
    let i = both (clock_fits (flag_at l) l) _ g.1 in
    let k = both (leb 48 (col 32 l)) _ e.0 in (
      record {
        mark = eqb-true _ _ a.0;
        gap = eqb-true _ _ b.0;
        time = c.0;
        gap_2 = d.0;
        low = leb-true 48 (col 32 l) k.0;
        high = leb-true (col 32 l) 57 k.1;
        count = f.0;
        gap_3 = g.0;
        clock = i.0;
      },
      i.1,
    )

pub record EpochFound (l : List ℕ) : Type 0 where
  pub line : EpochLine l (epoch_time l) (flag_at l) (count_at l) (clock_at l)
  pub suits : Suits (flag_at l) (epoch_time l) (clock_at l)

pub epoch_found : (l : List ℕ) → epoch_fits l ≡ true → flag_at l ≤ 5 → EpochFound l
unfolding count_at flag_at
epoch_found l h k =
    let w = front l h in
    let f = w.0 in
    let t = time_fits_found l (flag_at l) f.time in
    let u = clock_fits_found l (flag_at l) k f.clock in
    let n = given_some (whole_of (cols 33 35 l)) f.count in
    record {
      line =
          record {
            mark = f.mark;
            gap = f.gap;
            time_at = t.0;
            gap_2 = f.gap_2;
            flag_at = omega (arith, f.low);
            count_at = rw n.1 (whole_found (cols 33 35 l) n.0 n.1);
            gap_3 = f.gap_3;
            clock_at = u.0;
            rest = w.1;
          };
      suits = record { known = k; timed = t.1; clocked = u.1 };
    }

pub record EpochBack (l : List ℕ) (time : Option ℕ) (flag count : ℕ) (clock : Option ℤ) : Type 0 where
  pub fits : epoch_fits l ≡ true
  pub time_is : epoch_time l ≡ time
  pub flag_is : flag_at l ≡ flag
  pub count_is : count_at l ≡ count
  pub clock_is : clock_at l ≡ clock

flag_back : (l : List ℕ) (flag : ℕ) → col 32 l ≡ 48 + flag → flag_at l ≡ flag
unfolding flag_at
flag_back l flag e = omega arith

pub epoch_back : (l : List ℕ) (time : Option ℕ) (flag count : ℕ) (clock : Option ℤ) → EpochLine l time flag count clock → Suits flag time clock → EpochBack l time flag count clock
unfolding epoch_fits count_at
epoch_back l time flag count clock q s =
    let f : flag_at l ≡ flag = flag_back l flag q.flag_at in
    let g : is_digit (col 32 l) ≡ true = all_of _ _ (le-leb 48 (col 32 l) (omega (arith, q.flag_at))) (le-leb (col 32 l) 57 (omega (arith, q.flag_at, s.known))) in
    let w = whole_back (cols 33 35 l) count q.count_at in
    let t = time_fits_back l flag time q.time_at s.timed in
    let c = clock_fits_back l flag clock q.clock_at s.clocked in
    record {
      fits = rw (eq-eqb _ _ q.mark, eq-eqb _ _ q.gap, f, t.0, q.gap_2, g, w, q.gap_3, c) q.rest;
      time_is = t.1;
      flag_is = f;
      count_is = ap (given 0) w;
      clock_is = sym (decimal_or_blank_is 12 (cols 42 56 l) clock q.clock_at);
    }

-- what an epoch record spells is one thing
pub epoch_line_one : (l : List ℕ) (t u : Option ℕ) (f g m n : ℕ) (c d : Option ℤ) → EpochLine l t f m c → Suits f t c → EpochLine l u g n d → Suits g u d
    → (t ≡ u) × (f ≡ g) × (m ≡ n) × (c ≡ d)
epoch_line_one l t u f g m n c d p s q z =
    let a = epoch_back l t f m c p s in
    let b = epoch_back l u g n d q z in
    (sym a.time_is ∙ b.time_is, sym a.flag_is ∙ b.flag_is, sym a.count_is ∙ b.count_is, sym a.clock_is ∙ b.clock_is)

-- the epochs of the rule do
pub observed_suits : (lists : List (List (List ℕ))) (l : List ℕ) (ls : List (List ℕ)) (o : Observed) → ObservedLines lists l ls o → Suits o.flag (Some o.time) o.clock
observed_suits lists l ls o h =
    record { known = omega (arith, h.flag); timed = λ x. absurd (none_some _ (sym x)); clocked = λ x. absurd (omega (arith, h.flag, x)) }

pub event_suits : (l : List ℕ) (ls : List (List ℕ)) (v : Event) → EventLines l ls v → Suits v.flag v.time None
event_suits l ls v h = record { known = h.flag_to; timed = λ x. (h.flag_from, asked v.time x h.time); clocked = λ x. refl }
  where
    asked : (o : Option ℕ) → o ≡ None → TimeAsked v.flag o → v.flag ≤ 4
    asked None e h = h
    asked (Some t) e h = absurd (none_some t (sym e))
