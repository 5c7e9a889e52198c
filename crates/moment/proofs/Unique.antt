-- No two dates and times that there are have one moment. Assumes nothing.
use mathlib.Core.Path.{◌≡◌, sym, ap}
use Prim.Native.Nat.{ℕ, ◌+◌, ◌-◌, ◌*◌, ◌<◌}
use native.Mathlib.Omega.{arith}
use Rattle.moment.specs.declared.Date.{Date}
use Rattle.moment.specs.Moment.{leap, year_days, month_days, Fit, sum_to, days, instant}
use Rattle.moment.proofs.Days.{sum_past, in_year, in_year_lem}

-- a place in a row of blocks names its block and its place there
module _ (f : ℕ → ℕ) where
  not_before : (a b x y : ℕ) → sum_to f a + x ≡ sum_to f b + y → x < f a → a < b → ⊥
  not_before a b x y e hx h = omega (arith, sum_past f a b h)

  place_unique : (a b x y : ℕ) → sum_to f a + x ≡ sum_to f b + y → x < f a → y < f b → (a ≡ b) × (x ≡ y)
  place_unique a b x y e hx hy =
      let le : (a < b → ⊥) = not_before a b x y e hx in
      let ge : (b < a → ⊥) = not_before b a y x (sym e) hy in
      let p : a ≡ b = omega arith in
      let q : sum_to f a ≡ sum_to f b = ap (sum_to f) p in
      (p, omega arith)

-- so do a day, an hour, a minute and ticks
clock_unique : (d e h i m n s t : ℕ) → ((d * 24 + h) * 60 + m) * 600000000 + s ≡ ((e * 24 + i) * 60 + n) * 600000000 + t
    → h < 24 → i < 24 → m < 60 → n < 60 → s < 600000000 → t < 600000000 → (d ≡ e) × (h ≡ i) × (m ≡ n) × (s ≡ t)
clock_unique d e h i m n s t q h1 h2 h3 h4 h5 h6 =
    let a : (d * 24 + h) * 60 + m ≡ (e * 24 + i) * 60 + n = omega arith in
    let b : d * 24 + h ≡ e * 24 + i = omega arith in
    (omega arith, omega arith, omega arith, omega arith)

same_date : (d e : Date) → d.year ≡ e.year → d.month ≡ e.month → d.day ≡ e.day → d.hour ≡ e.hour → d.minute ≡ e.minute → d.ticks ≡ e.ticks → d ≡ e
same_date d e p q r s t u = λ i. record { year = p i; month = q i; day = r i; hour = s i; minute = t i; ticks = u i }

pub instant_unique : (d e : Date) → Fit d → Fit e → instant d ≡ instant e → d ≡ e
unfolding instant days in_year
instant_unique d e f g q =
    let t = clock_unique (days d) (days e) d.hour e.hour d.minute e.minute d.ticks e.ticks q f.hours g.hours f.minutes g.minutes f.seconds g.seconds in
    let p : sum_to year_days (d.year - 1980) + in_year d ≡ sum_to year_days (e.year - 1980) + in_year e = omega arith in
    let y = place_unique year_days (d.year - 1980) (e.year - 1980) (in_year d) (in_year e) p (in_year_lem d f) (in_year_lem e g) in
    let py : d.year ≡ e.year = omega arith in
    let l : leap d.year ≡ leap e.year = ap leap py in
    let h : d.day - 1 < month_days (leap d.year) (d.month - 1) = omega arith in
    let m = place_unique (month_days (leap e.year)) (d.month - 1) (e.month - 1) (d.day - 1) (e.day - 1) (rw l at y.1) (rw l at h) (omega arith) in
    same_date d e py (omega arith) (omega arith) t.1 t.2 t.3
