-- Carried lines, of the header or of an event: so many of a run of bytes, each fit.
use Rattle.std.specs.Prelude.{ℕ, zero, suc, ◌≡◌, Bool, true, false, not, ◌&&◌, List, [], ◌∷◌, take, drop}
use Rattle.std.specs.Prelude.{Option, None, Some}
use Rattle.line.specs.Text.{Raw, split}
use Rattle.label.specs.declared.Label.{Label}
use Rattle.label.specs.declared.Label.TheVariants.{Unknown}
use Rattle.label.specs.Labels.{is, label_of, carried_in_header, barred_from_events}
use Rattle.rinex.specs.Fit.{is_held, some_marker}
use Rattle.fits_rows.specs.declared.Run.{Run}

-- a label that is carried, in an event or in the header
abbrev pub label_fits : (event : Bool) → Label → Bool
label_fits true k = not (is Unknown k) && not (barred_from_events k)
label_fits false k = carried_in_header k

unfoldable pub line_fits : (event : Bool) → Raw → Bool
line_fits e w = is_held w && label_fits e (label_of w.bytes)

-- there are n lines, and they are fit
unfoldable pub lines_fit : (event : Bool) → ℕ → List Raw → Bool
lines_fit e zero ws = true
lines_fit e (suc n) [] = false
lines_fit e (suc n) (w ∷ ws) = line_fits e w && lines_fit e n ws

-- the first n of some lines are fit, those behind them begin at place p of t, and one of them is MARKER NAME or not
pub record Ran (e : Bool) (t : List ℕ) (n : ℕ) (ws : List Raw) (p : ℕ) (m : Bool) : Type 0 where
  pub fit : lines_fit e n ws ≡ true
  pub rest : drop n ws ≡ split (drop p t)
  pub marker : m ≡ some_marker (take n ws)

abbrev pub LinesRun : (event : Bool) → List ℕ → ℕ → List Raw → Option Run → Type 0
LinesRun e t n ws (Some r) = Ran e t n ws r.to r.marker
LinesRun e t n ws None = lines_fit e n ws ≡ false
