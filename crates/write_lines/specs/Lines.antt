-- Carried lines as they are put, and what is asked of them.
use Rattle.std.specs.Prelude.{ℕ, zero, suc, Bool, true, false, ◌&&◌, List, [], ◌∷◌, take}
use Rattle.line.specs.Text.{text, Raw}
use Rattle.rinex.specs.Fit.{is_held}
use Rattle.rinex.specs.Held.{bytes_of}

-- there are n lines, each as it is held
unfoldable pub are_held : ℕ → List Raw → Bool
are_held zero ws = true
are_held (suc n) [] = false
are_held (suc n) (w ∷ ws) = is_held w && are_held n ws

-- their text
abbrev pub lines_text : ℕ → List Raw → List ℕ
lines_text n ws = text (bytes_of (take n ws))
