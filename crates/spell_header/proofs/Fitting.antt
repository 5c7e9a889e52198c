-- A header line is what is spelled, cut. Assumes nothing.
use Prim.Native.Nat.{ℕ}
use Prim.Native.String.{String}
use mathlib.Core.Path.{◌≡◌, refl}
use mathlib.Core.List.{List}
use Rattle.line.specs.Text.{cut}
use Rattle.rinex.specs.Normal.{line}
use Rattle.spell_header.specs.Wide.{wide}

-- a header line is what is spelled, cut
pub line_is : (body : List ℕ) (label : String) → line body label ≡ cut (wide body label)
unfolding line
line_is body label = refl
