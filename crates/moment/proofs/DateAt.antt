-- `date_at` finds the date at each moment up to 2099, and so gives back a date from its moment. Assumes nothing.
use mathlib.Core.Path.{◌≡◌, refl, sym, ap}
use mathlib.Core.Bool.{Bool, true, false, cond}
use Prim.Native.Nat.{ℕ, zero, suc, ◌+◌, ◌-◌, ◌*◌, ◌/◌, ◌%◌, ◌≤◌, ◌<◌}
use native.Mathlib.Omega.{arith}
use borrow.Author.Tests.{ltb-true, ltb-false}
use lib.Dec.{ltb}
use Rattle.moment.specs.declared.Date.{Date}
use Rattle.moment.specs.Moment.{leap, year_days, month_days, Fit, sum_to, days, instant}
use Rattle.moment.specs.Found.{Spot, spot, date_at}
use Rattle.moment.specs.Steps.{InBlock}
use Rattle.moment.proofs.Days.{sum_next, years, year_is, instant_below}
use Rattle.moment.proofs.Unique.{instant_unique}

-- `spot` finds the block that a place lies in
abbrev InBlockAt : (ℕ → ℕ) → ℕ → ℕ → Spot → Type 0
InBlockAt f k n p = InBlock f k n p.block p.rest

spot_from : (f : ℕ → ℕ) (k a n : ℕ) → sum_to f a + n < sum_to f (a + k) → InBlockAt f (a + k) (sum_to f a + n) (spot f k a n)
unfolding spot
spot_from f zero a n h = let e : a + 0 ≡ a = omega arith in absurd (omega (arith, ap (sum_to f) e))
spot_from f (suc k) a n h = go (ltb n (f a)) refl (spot_from f k (a + 1) (n - f a))
  where
    go : (b : Bool) → ltb n (f a) ≡ b
        → (sum_to f (a + 1) + (n - f a) < sum_to f (a + 1 + k) → InBlockAt f (a + 1 + k) (sum_to f (a + 1) + (n - f a)) (spot f k (a + 1) (n - f a)))
        → InBlockAt f (a + suc k) (sum_to f a + n) (cond b (record { block = a; rest = n }) (spot f k (a + 1) (n - f a)))
    go true e next = record { sum = refl; rest = ltb-true n (f a) e; block = omega arith }
    go false e next =
        let past : f a ≤ n = ltb-false n (f a) e in
        let s : a + suc k ≡ a + 1 + k = omega arith in
        let m : sum_to f (a + 1) + (n - f a) ≡ sum_to f a + n = omega (arith, sum_next f a) in
        rw (s, ← m) (next (omega (arith, ap (sum_to f) s)))

spot_lies : (f : ℕ → ℕ) (k n : ℕ) → n < sum_to f k → InBlockAt f k n (spot f k 0 n)
unfolding sum_to
spot_lies f k n h =
    let e : 0 + k ≡ k = omega arith in
    let z : 0 + n ≡ n = omega arith in
    rw (e, z) at (spot_from f k 0 n (rw (e, z) h))

-- a date whose year, month and day lie so is one that there is, and has this moment
pub date_is : (d : Date) (t n k r m x : ℕ) → InBlock year_days 120 n k r → InBlock (month_days (leap (1980 + k))) 12 r m x
    → d.year ≡ 1980 + k → d.month ≡ 1 + m → d.day ≡ 1 + x → d.hour < 24 → d.minute < 60 → d.ticks < 600000000
    → ((n * 24 + d.hour) * 60 + d.minute) * 600000000 + d.ticks ≡ t → Fit d × (t ≡ instant d)
unfolding instant days
date_is d t n k r m x y z a b c p q u e =
    let i : d.year - 1980 ≡ k = omega arith in
    let j : d.month - 1 ≡ m = omega arith in
    let days-in : month_days (leap d.year) (d.month - 1) ≡ month_days (leap (1980 + k)) m = rw (a, j) in
    let before : sum_to (month_days (leap d.year)) (d.month - 1) ≡ sum_to (month_days (leap (1980 + k))) m = rw (a, j) in
    (omega arith, omega (arith, ap (sum_to year_days) i))

-- a day and a time of day, by division
clock : (t : ℕ) → ((t / 864000000000 * 24 + t / 36000000000 % 24) * 60 + t / 600000000 % 60) * 600000000 + t % 600000000 ≡ t
clock t =
    let hours : t / 600000000 / 60 ≡ t / 36000000000 = omega arith in
    let day : t / 36000000000 / 24 ≡ t / 864000000000 = omega arith in
    omega arith

pub date_there : (t : ℕ) → t < 43830 * 864000000000 → Fit (date_at t) × (t ≡ instant (date_at t))
unfolding date_at
date_there t h =
    let n : ℕ = t / 864000000000 in
    let y : InBlockAt year_days 120 n (spot year_days 120 0 n) = spot_lies year_days 120 n (omega (arith, years 120 (omega arith))) in
    let k : ℕ = (spot year_days 120 0 n).block in
    let r : ℕ = (spot year_days 120 0 n).rest in
    let m = spot_lies (month_days (leap (1980 + k))) 12 r (omega (arith, year_is k)) in
    date_is (date_at t) t n k r _ _ y m refl refl refl (omega arith) (omega arith) (omega arith) (clock t)

pub date_at_lem : (d : Date) → Fit d → date_at (instant d) ≡ d
date_at_lem d f = let a = date_there (instant d) (instant_below d f) in instant_unique (date_at (instant d)) d a.0 f (sym a.1)
