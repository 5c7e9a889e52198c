-- Fit lines are held, those of the header and those of events. Assumes nothing.
use Prim.Native.Nat.{ℕ, zero, suc, ◌≤◌}
use mathlib.Core.Path.{◌≡◌, refl, ◌∙◌}
use mathlib.Core.Bool.{Bool, true, false}
use mathlib.Core.List.{List, [], ◌∷◌}
use borrow.Author.Tests.{le-leb}
use lib.Dec.{leb}
use lib.ListN.{length, take}
use Rattle.lists.proofs.Bools.{both, all_of}
use Rattle.line.specs.Text.{Raw}
use Rattle.rinex.specs.Fit.{is_held, header_lines_fit, event_lines_fit}
use Rattle.fits_rows.specs.Carried.{line_fits, lines_fit}
use Rattle.fits_rows.proofs.Running.{header_lines, event_lines}
use Rattle.write_lines.specs.Lines.{are_held}

-- fit lines are held
fit_held : (e : Bool) (n : ℕ) (ws : List Raw) → lines_fit e n ws ≡ true → are_held n ws ≡ true
unfolding lines_fit line_fits are_held
fit_held e zero ws h = refl
fit_held e (suc n) [] h = h
fit_held e (suc n) (w ∷ ws) h =
    let p = both (line_fits e w) (lines_fit e n ws) h in
    all_of (is_held w) (are_held n ws) (both (is_held w) _ p.0).0 (fit_held e n ws p.1)

-- those of an event
pub event_held : (n : ℕ) (ws : List Raw) → n ≤ length ws → event_lines_fit (take n ws) ≡ true → are_held n ws ≡ true
event_held n ws h f = fit_held true n ws (event_lines n ws ∙ all_of (leb n (length ws)) _ (le-leb n (length ws) h) f)

-- those of the header
pub header_held : (n : ℕ) (ws : List Raw) → n ≤ length ws → header_lines_fit (take n ws) ≡ true → are_held n ws ≡ true
header_held n ws h f = fit_held false n ws (header_lines n ws ∙ all_of (leb n (length ws)) _ (le-leb n (length ws) h) f)
