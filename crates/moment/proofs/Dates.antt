-- The test `is_date` finds the dates that there are, and no others; what is counted of a date is its moment. Assumes nothing.
use Prim.Native.Nat.{ℕ, ◌-◌}
use mathlib.Core.Path.{◌≡◌, refl, ap}
use mathlib.Core.Bool.{Bool, true, false}
use Rattle.std.specs.Prelude.{Option, None, Some}
use lib.Dec.{leb, ltb}
use borrow.Author.Tests.{leb-true, le-leb, ltb-true, lt-ltb}
use Rattle.lists.specs.Maybe.{when}
use Rattle.lists.proofs.Bools.{both}
use Rattle.moment.specs.declared.Date.{Date}
use Rattle.moment.specs.Moment.{leap, month_days, instant, Fit}
use Rattle.moment.specs.Found.{is_date, instant_of}
use Rattle.moment.specs.Promises.{Counted}

pub date_found : (d : Date) → is_date d ≡ true → Fit d
unfolding is_date
date_found d e =
    let a = both (leb 1980 d.year) _ e in
    let b = both (leb d.year 2099) _ a.1 in
    let c = both (leb 1 d.month) _ b.1 in
    let f = both (leb d.month 12) _ c.1 in
    let g = both (leb 1 d.day) _ f.1 in
    let h = both (leb d.day (month_days (leap d.year) (d.month - 1))) _ g.1 in
    let i = both (ltb d.hour 24) _ h.1 in
    let j = both (ltb d.minute 60) _ i.1 in
    record {
      year_from = leb-true _ _ a.0;
      year_to = leb-true _ _ b.0;
      month_from = leb-true _ _ c.0;
      month_to = leb-true _ _ f.0;
      day_from = leb-true _ _ g.0;
      day_to = leb-true _ _ h.0;
      hours = ltb-true _ _ i.0;
      minutes = ltb-true _ _ j.0;
      seconds = ltb-true _ _ j.1;
    }

pub date_back : (d : Date) → Fit d → is_date d ≡ true
unfolding is_date
date_back d f =
    rw (
      le-leb _ _ f.year_from,
      le-leb _ _ f.year_to,
      le-leb _ _ f.month_from,
      le-leb _ _ f.month_to,
      le-leb _ _ f.day_from,
      le-leb _ _ f.day_to,
      lt-ltb _ _ f.hours,
      lt-ltb _ _ f.minutes,
      lt-ltb _ _ f.seconds,
    )

-- the moment of a date
pub counted_is : (d : Date) (r : Option ℕ) → Counted d r → r ≡ instant_of d
counted_is d (Some t) h = rw (date_back d h.0) (ap Some h.1)
counted_is d None h = at (is_date d) refl
  where
    at : (b : Bool) → is_date d ≡ b → None ≡ when b (instant d)
    at true e = absurd (h (date_found d e))
    at false e = refl
