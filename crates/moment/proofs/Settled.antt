-- Each promise is met by one answer at every input, and the two are each other's inverse. Assumes nothing.
use mathlib.Core.Path.{◌≡◌, refl, sym, ap, ◌∙◌}
use mathlib.Core.Bool.{Bool, true, false}
use Prim.Native.Nat.{ℕ, ◌*◌}
use native.Mathlib.Omega.{arith}
use borrow.Author.Tests.{ltb-true, ltb-false}
use lib.Dec.{ltb}
use Rattle.std.specs.Prelude.{Option, None, Some}
use Rattle.lists.proofs.Bools.{never}
use Rattle.moment.specs.declared.Date.{Date}
use Rattle.moment.specs.Moment.{instant}
use Rattle.moment.specs.Found.{is_date, date_at}
use Rattle.moment.specs.Promises.{Counted, Dated}
use Rattle.moment.proofs.Days.{instant_below}
use Rattle.moment.proofs.Unique.{instant_unique}
use Rattle.moment.proofs.DateAt.{date_there}
use Rattle.moment.proofs.Dates.{date_found, date_back}

pub counted_one : (d : Date) (r s : Option ℕ) → Counted d r → Counted d s → r ≡ s
counted_one d (Some t) (Some u) p q = ap Some (p.1 ∙ sym q.1)
counted_one d (Some t) None p q = absurd (q p.0)
counted_one d None (Some u) p q = absurd (p q.0)
counted_one d None None p q = refl

pub dated_one : (t : ℕ) (r s : Option Date) → Dated t r → Dated t s → r ≡ s
dated_one t (Some d) (Some e) p q = ap Some (instant_unique d e p.0 q.0 (sym p.1 ∙ q.1))
dated_one t (Some d) None p q = absurd (q d p.0 p.1)
dated_one t None (Some e) p q = absurd (p e q.0 q.1)
dated_one t None None p q = refl

pub counted_met : (d : Date) → (r : Option ℕ) × Counted d r
counted_met d = go (is_date d) refl
  where
    go : (b : Bool) → is_date d ≡ b → (r : Option ℕ) × Counted d r
    go true e = (Some (instant d), (date_found d e, refl))
    go false e = (None, λ f. never (sym e ∙ date_back d f))

pub dated_met : (t : ℕ) → (r : Option Date) × Dated t r
dated_met t = go (ltb t (43830 * 864000000000)) refl
  where
    go : (b : Bool) → ltb t (43830 * 864000000000) ≡ b → (r : Option Date) × Dated t r
    go true e = (Some (date_at t), date_there t (ltb-true t (43830 * 864000000000) e))
    go false e = (None, λ d f q. omega (arith, instant_below d f, ltb-false t (43830 * 864000000000) e))

-- the date at the moment of a date is that date, and the moment of the date at a moment is that moment
pub there : (d : Date) (t : ℕ) → Counted d (Some t) → Dated t (Some d)
there d t p = p

pub back : (t : ℕ) (d : Date) → Dated t (Some d) → Counted d (Some t)
back t d p = p

pub there_only : (d : Date) (t : ℕ) (r : Option Date) → Counted d (Some t) → Dated t r → r ≡ Some d
there_only d t r p q = dated_one t r (Some d) q (there d t p)

pub back_only : (t : ℕ) (d : Date) (r : Option ℕ) → Dated t (Some d) → Counted d r → r ≡ Some t
back_only t d r p q = counted_one d r (Some t) q (back t d p)
