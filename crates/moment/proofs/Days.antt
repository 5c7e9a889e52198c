-- Sums of days: the days before a year and before a month, and those of a date in its year. Assumes nothing.
use mathlib.Core.Path.{◌≡◌, refl, sym}
use mathlib.Core.Bool.{Bool, true, false, cond, not, ◌&&◌, ◌||◌}
use mathlib.Core.List.{List, [], ◌∷◌}
use Prim.Native.Nat.{ℕ, zero, suc, ◌+◌, ◌-◌, ◌*◌, ◌/◌, ◌%◌, ◌≤◌, ◌<◌}
use native.Mathlib.Nat.{add-suc, add-zero, le_refl}
use native.Mathlib.Numerals.{add-one}
use native.Mathlib.Omega.{arith}
use borrow.Author.Tests.{eqb-true, eqb-false, eq-eqb, leb-true}
use lib.Dec.{eqb, leb}
use lib.ListN.{get_or}
use Rattle.lists.specs.Lists.{every}
use Rattle.lists.proofs.Bools.{both}
use Rattle.moment.specs.declared.Date.{Date}
use Rattle.moment.specs.Moment.{leap, year_days, month_days, Fit, sum_to, days, instant}

-- sums
module _ (f : ℕ → ℕ) where
  sum_more : (a k : ℕ) → sum_to f a ≤ sum_to f (a + k)
  unfolding sum_to
  sum_more a zero = rw add-zero (le_refl (sum_to f a))
  sum_more a (suc k) = rw add-suc (omega (arith, sum_more a k))

  sum_mono : (a b : ℕ) → a ≤ b → sum_to f a ≤ sum_to f b
  sum_mono a b h = let e : a + (b - a) ≡ b = omega arith in rw e at (sum_more a (b - a))

  pub sum_next : (a : ℕ) → sum_to f (a + 1) ≡ sum_to f a + f a
  unfolding sum_to
  sum_next a = rw add-one

  -- a whole block reaches no further than the next begins
  pub sum_past : (a b : ℕ) → a < b → sum_to f a + f a ≤ sum_to f b
  unfolding sum_to
  sum_past a b h = sum_mono (suc a) b h

  pub sum_lt : (a b : ℕ) → sum_to f a < sum_to f b → a < b
  sum_lt a b h = let ge : (b ≤ a → ⊥) = λ k. omega (arith, sum_mono b a k) in omega arith

-- years: 2000 is a leap year, and 2100 is not reached
leap_fourth : (y : ℕ) → 1980 ≤ y → y ≤ 2099 → leap y ≡ eqb (y % 4) 0
unfolding leap
leap_fourth y from to = go (eqb (y % 4) 0) (eqb (y % 100) 0) refl
  where
    go : (a b : Bool) → eqb (y % 100) 0 ≡ b → (a && (not b || eqb (y % 400) 0)) ≡ a
    go false b e = refl
    go true false e = refl
    go true true e = eq-eqb (y % 400) 0 (omega (arith, eqb-true (y % 100) 0 e))

year_cases : (k : ℕ) (P : ℕ → Type 0) → k < 120 → (k % 4 ≡ 0 → P 366) → ((k % 4 ≡ 0 → ⊥) → P 365) → P (year_days k)
unfolding year_days
year_cases k P h is not = rw (leap_fourth (1980 + k) (omega arith) (omega arith)) (go (eqb ((1980 + k) % 4) 0) refl)
  where
    go : (b : Bool) → eqb ((1980 + k) % 4) 0 ≡ b → P (cond b 366 365)
    go true e = is (omega (arith, eqb-true ((1980 + k) % 4) 0 e))
    go false e = not (λ z. eqb-false ((1980 + k) % 4) 0 e (omega arith))

pub year_leap : (k : ℕ) → k < 120 → k % 4 ≡ 0 → year_days k ≡ 366
year_leap k h z = year_cases k (λ (n : ℕ). n ≡ 366) h (λ e. refl) (λ e. absurd (e z))

pub year_other : (k : ℕ) → k < 120 → (k % 4 ≡ 0 → ⊥) → year_days k ≡ 365
year_other k h z = year_cases k (λ (n : ℕ). n ≡ 365) h (λ e. absurd (z e)) (λ e. refl)

-- the days before a year
pub years : (k : ℕ) → k ≤ 120 → sum_to year_days k ≡ 365 * k + (k + 3) / 4
unfolding sum_to
years zero h = refl
years (suc k) h =
    year_cases k (λ (n : ℕ). sum_to year_days k + n ≡ 365 * suc k + (suc k + 3) / 4) (omega arith)
    (λ e. omega (arith, years k (omega arith)))
    (λ e. omega (arith, years k (omega arith)))

-- months
pub months : (l : Bool) → sum_to (month_days l) 12 ≡ cond l 366 365
unfolding sum_to month_days
months true = refl
months false = refl

pub year_is : (k : ℕ) → year_days k ≡ sum_to (month_days (leap (1980 + k))) 12
unfolding year_days
year_is k = sym (months (leap (1980 + k)))

pub month_sum : (l : Bool) (k : ℕ) → k ≤ 12 → sum_to (month_days l) k ≤ 366
month_sum true k h = omega (arith, months true, sum_mono (month_days true) k 12 h)
month_sum false k h = omega (arith, months false, sum_mono (month_days false) k 12 h)

-- the days of all months, with f for February
abbrev pub lengths : ℕ → List ℕ
lengths f = 31 ∷ f ∷ 31 ∷ 30 ∷ 31 ∷ 30 ∷ 31 ∷ 31 ∷ 30 ∷ 31 ∷ 30 ∷ 31 ∷ []

-- only February has one day more in a leap year
pub month_common : (l : Bool) (k : ℕ) → (k ≡ 1 → l ≡ false) → get_or (lengths 28) k 0 ≡ month_days l k
unfolding month_days
month_common l zero h = refl
month_common l (suc zero) h = rw (h refl)
month_common l (suc (suc k)) h = refl

within : (xs : List ℕ) (k : ℕ) → every (λ x. leb x 31) xs ≡ true → get_or xs k 0 ≤ 31
within [] k h = omega arith
within (x ∷ xs) zero h = leb-true x 31 (both (leb x 31) (every (λ x. leb x 31) xs) h).0
within (x ∷ xs) (suc k) h = within xs k (both (leb x 31) (every (λ x. leb x 31) xs) h).1

pub month_31 : (l : Bool) (k : ℕ) → month_days l k ≤ 31
unfolding month_days
month_31 true k = within (lengths 29) k refl
month_31 false k = within (lengths 28) k refl

-- dates
pub day_31 : (d : Date) → Fit d → d.day ≤ 31
day_31 d f = omega (arith, f.day_to, month_31 (leap d.year) (d.month - 1))

-- the days of a date in its year
unfoldable pub in_year : Date → ℕ
in_year d = sum_to (month_days (leap d.year)) (d.month - 1) + (d.day - 1)

pub in_year_lem : (d : Date) → Fit d → in_year d < year_days (d.year - 1980)
unfolding in_year
in_year_lem d f =
    let e : 1980 + (d.year - 1980) ≡ d.year = omega arith in
    let h : d.month - 1 < 12 = omega arith in
    rw (year_is (d.year - 1980), e) (omega (arith, sum_past (month_days (leap d.year)) (d.month - 1) 12 h))

pub days_below : (d : Date) → Fit d → days d < 43830
unfolding days in_year
days_below d f =
    let h : d.year - 1980 < 120 = omega arith in
    omega (arith, in_year_lem d f, sum_past year_days (d.year - 1980) 120 h, years 120 (omega arith))

pub instant_below : (d : Date) → Fit d → instant d < 43830 * 864000000000
unfolding instant
instant_below d f = omega (arith, days_below d f)
