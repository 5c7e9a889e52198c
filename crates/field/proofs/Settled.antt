-- Each promise of reading allows exactly one answer for each field. Assumes nothing.
use Prim.Native.Nat.{ℕ, ◌<◌}
use mathlib.Core.Path.{◌≡◌, refl, sym, ap, ◌∙◌, subst}
use mathlib.Core.Bool.{Bool, true, false, true≢false}
use mathlib.Core.List.{List}
use Rattle.std.specs.Prelude.{Option, None, Some, Result, Ok, Err}
use native.Mathlib.Omega.{arith}
use borrow.Author.Tests.{ltb-true, lt-ltb}
use lib.Dec.{ltb}
use lib.IntN.{ℤ, nat_abs}
use Rattle.lists.specs.Blank.{Blank, is_blank}
use Rattle.lists.specs.Maybe.{when, ◌>>=◌}
use Rattle.lists.proofs.Maybe.{none_some, some_one, when_some, bind_some}
use Rattle.field.specs.Field.{Whole, Decimal, Second}
use Rattle.field.specs.Found.{whole_of, decimal_of, second_of}
use Rattle.field.specs.Reading.{most, ReadsWhole, ReadsDecimal, ReadsSecond, ReadsMark}
use Rattle.field.specs.declared.Unfit.{Unfit}
use Rattle.field.proofs.Found.{whole_found, whole_back, whole_blank, decimal_found, decimal_back, decimal_blank, second_found, second_back, second_blank}

-- What a field reads as that is blank or not, and in which o finds a number
abbrev pub tell : {A : Type 0} → Bool → Option A → Result (Option A) Unfit
tell true o = Ok None
tell false None = Err (record {})
tell false (Some x) = Ok (Some x)

-- The three answers at large, of a field that holds the numbers N
module _ {A : Type 0} (s : List ℕ) (N : A → Type 0) (o : Option A)
    (found : (x : A) → o ≡ Some x → N x) (back : (x : A) → N x → o ≡ Some x) (None-found : Blank s → o ≡ None) where
  abbrev Tells : Result (Option A) Unfit → Type 0
  Tells (Err e) = (Blank s → ⊥) × ((x : A) → N x → ⊥)
  Tells (Ok None) = Blank s
  Tells (Ok (Some x)) = N x

  one : (x y : A) → N x → N y → x ≡ y
  one x y p q = some_one x y (sym (back x p) ∙ back y q)

  apart : (x : A) → Blank s → N x → ⊥
  apart x b p = none_some x (sym (None-found b) ∙ back x p)

  tells_one : (r t : Result (Option A) Unfit) → Tells r → Tells t → r ≡ t
  tells_one (Err e) (Err f) p q = refl
  tells_one (Err e) (Ok None) p q = absurd (p.0 q)
  tells_one (Err e) (Ok (Some y)) p q = absurd (p.1 y q)
  tells_one (Ok None) (Err e) p q = absurd (q.0 p)
  tells_one (Ok None) (Ok None) p q = refl
  tells_one (Ok None) (Ok (Some y)) p q = absurd (apart y p q)
  tells_one (Ok (Some x)) (Err e) p q = absurd (q.1 x p)
  tells_one (Ok (Some x)) (Ok None) p q = absurd (apart x q p)
  tells_one (Ok (Some x)) (Ok (Some y)) p q = ap (λ (z : A). Ok (Some z)) (one x y p q)

  tells_met : Tells (tell (is_blank s) o)
  tells_met = go (is_blank s) o refl refl
    where
      go : (b : Bool) (u : Option A) → is_blank s ≡ b → o ≡ u → Tells (tell b u)
      go true u e f = e
      go false None e f = ((λ h. true≢false (sym h ∙ e)), λ x p. none_some x (sym f ∙ back x p))
      go false (Some x) e f = found x f

-- a number that is held
abbrev pub held : {A : Type 0} → (A → ℕ) → Option A → Option A
held size o = o >>= λ x. when (ltb (size x) most) x

module _ {A : Type 0} (size : A → ℕ) (N : A → Type 0) (o : Option A) (found : (x : A) → o ≡ Some x → N x) (back : (x : A) → N x → o ≡ Some x) where
  held_found : (x : A) → held size o ≡ Some x → N x × (size x < most)
  held_found x e =
      let p = bind_some o (λ y. when (ltb (size y) most) y) x e in
      let q = when_some (ltb (size p.0) most) p.0 x p.2 in
      (found x (p.1 ∙ ap Some q.1), subst (λ (y : A). size y < most) q.1 (ltb-true (size p.0) most q.0))

  held_back : (x : A) → N x × (size x < most) → held size o ≡ Some x
  held_back x p = rw (back x p.0, lt-ltb (size x) most p.1)

-- Whole numbers
module _ (s : List ℕ) where
  abbrev Held_whole : ℕ → Type 0
  Held_whole n = Whole s n × (n < most)

  abbrev pub found_whole : Option ℕ
  found_whole = held (λ n. n) (whole_of s)

  whole_gives : (n : ℕ) → found_whole ≡ Some n → Held_whole n
  whole_gives = held_found (λ n. n) (Whole s) (whole_of s) (whole_found s) (whole_back s)

  whole_takes : (n : ℕ) → Held_whole n → found_whole ≡ Some n
  whole_takes = held_back (λ n. n) (Whole s) (whole_of s) (whole_found s) (whole_back s)

  whole_none : Blank s → found_whole ≡ None
  whole_none b = rw (whole_blank s b)

  whole_there : (r : Result (Option ℕ) Unfit) → ReadsWhole s r → Tells s Held_whole found_whole whole_gives whole_takes whole_none r
  whole_there (Err e) h = (h.0, λ n p. h.1 n p.0 p.1)
  whole_there (Ok None) h = h
  whole_there (Ok (Some n)) h = h

  whole_here : (r : Result (Option ℕ) Unfit) → Tells s Held_whole found_whole whole_gives whole_takes whole_none r → ReadsWhole s r
  whole_here (Err e) h = (h.0, λ n p k. h.1 n (p, k))
  whole_here (Ok None) h = h
  whole_here (Ok (Some n)) h = h

  pub reads_whole_one : (r t : Result (Option ℕ) Unfit) → ReadsWhole s r → ReadsWhole s t → r ≡ t
  reads_whole_one r t p q = tells_one s Held_whole found_whole whole_gives whole_takes whole_none r t (whole_there r p) (whole_there t q)

  abbrev pub whole_read : Result (Option ℕ) Unfit
  whole_read = tell (is_blank s) found_whole

  pub reads_whole_met : ReadsWhole s whole_read
  reads_whole_met = whole_here whole_read (tells_met s Held_whole found_whole whole_gives whole_takes whole_none)

  second_there : (r : Result (Option ℕ) Unfit) → ReadsSecond s r → Tells s (Second s) (second_of s) (second_found s) (second_back s) (second_blank s) r
  second_there (Err e) h = h
  second_there (Ok None) h = h
  second_there (Ok (Some n)) h = h

  second_here : (r : Result (Option ℕ) Unfit) → Tells s (Second s) (second_of s) (second_found s) (second_back s) (second_blank s) r → ReadsSecond s r
  second_here (Err e) h = h
  second_here (Ok None) h = h
  second_here (Ok (Some n)) h = h

  pub reads_second_one : (r t : Result (Option ℕ) Unfit) → ReadsSecond s r → ReadsSecond s t → r ≡ t
  reads_second_one r t p q =
      tells_one s (Second s) (second_of s) (second_found s) (second_back s) (second_blank s) r t (second_there r p) (second_there t q)

  abbrev pub second_read : Result (Option ℕ) Unfit
  second_read = tell (is_blank s) (second_of s)

  pub reads_second_met : ReadsSecond s second_read
  reads_second_met = second_here second_read (tells_met s (Second s) (second_of s) (second_found s) (second_back s) (second_blank s))

-- Decimals: one fact over the number of decimals
module _ (d : ℕ) (s : List ℕ) where
  abbrev Held_decimal : ℤ → Type 0
  Held_decimal z = Decimal d s z × (nat_abs z < most)

  abbrev pub found_decimal : Option ℤ
  found_decimal = held nat_abs (decimal_of d s)

  decimal_gives : (z : ℤ) → found_decimal ≡ Some z → Held_decimal z
  decimal_gives = held_found nat_abs (Decimal d s) (decimal_of d s) (decimal_found d s) (decimal_back d s)

  decimal_takes : (z : ℤ) → Held_decimal z → found_decimal ≡ Some z
  decimal_takes = held_back nat_abs (Decimal d s) (decimal_of d s) (decimal_found d s) (decimal_back d s)

  decimal_none : Blank s → found_decimal ≡ None
  decimal_none b = rw (decimal_blank d s b)

  decimal_there : (r : Result (Option ℤ) Unfit) → ReadsDecimal d s r → Tells s Held_decimal found_decimal decimal_gives decimal_takes decimal_none r
  decimal_there (Err e) h = (h.0, λ z p. h.1 z p.0 p.1)
  decimal_there (Ok None) h = h
  decimal_there (Ok (Some z)) h = h

  decimal_here : (r : Result (Option ℤ) Unfit) → Tells s Held_decimal found_decimal decimal_gives decimal_takes decimal_none r → ReadsDecimal d s r
  decimal_here (Err e) h = (h.0, λ z p k. h.1 z (p, k))
  decimal_here (Ok None) h = h
  decimal_here (Ok (Some z)) h = h

  pub reads_decimal_one : (r t : Result (Option ℤ) Unfit) → ReadsDecimal d s r → ReadsDecimal d s t → r ≡ t
  reads_decimal_one r t p q = tells_one s Held_decimal found_decimal decimal_gives decimal_takes decimal_none r t (decimal_there r p) (decimal_there t q)

  abbrev pub decimal_read : Result (Option ℤ) Unfit
  decimal_read = tell (is_blank s) found_decimal

  pub reads_decimal_met : ReadsDecimal d s decimal_read
  reads_decimal_met = decimal_here decimal_read (tells_met s Held_decimal found_decimal decimal_gives decimal_takes decimal_none)

-- Marks
pub reads_mark_one : (top b : ℕ) (r t : Result (Option ℕ) Unfit) → ReadsMark top b r → ReadsMark top b t → r ≡ t
reads_mark_one top b (Err e) (Err f) p q = refl
reads_mark_one top b (Err e) (Ok None) p q = absurd (p.0 q)
reads_mark_one top b (Err e) (Ok (Some n)) p q = absurd (p.1 n q)
reads_mark_one top b (Ok None) (Err e) p q = absurd (q.0 p)
reads_mark_one top b (Ok None) (Ok None) p q = refl
reads_mark_one top b (Ok None) (Ok (Some n)) p q = absurd (omega (arith, q.0))
reads_mark_one top b (Ok (Some m)) (Err e) p q = absurd (q.1 m p)
reads_mark_one top b (Ok (Some m)) (Ok None) p q = absurd (omega (arith, p.0))
reads_mark_one top b (Ok (Some m)) (Ok (Some n)) p q = ap (λ (k : ℕ). Ok (Some k)) (omega (arith, p.0, q.0))
