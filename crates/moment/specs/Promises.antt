-- The promises of `moment_of` and `date_of`.
use Rattle.std.specs.Prelude.{ℕ, ◌≡◌}
use Rattle.std.specs.Prelude.{Option, None, Some}
use Rattle.moment.specs.Moment.{Fit, instant}
use Rattle.moment.specs.declared.Date.{Date}

-- the moment of a date that there is
abbrev pub Counted : Date → Option ℕ → Type 0
Counted d (Some t) = Fit d × (t ≡ instant d)
Counted d None = Fit d → ⊥

-- the date that there is at a moment
abbrev pub Dated : ℕ → Option Date → Type 0
Dated t (Some d) = Fit d × (t ≡ instant d)
Dated t None = (d : Date) → Fit d → t ≡ instant d → ⊥
