-- The codes of one line.
use Rattle.std.specs.Prelude.{ℕ, ◌<◌, List, map, length, get_or}
use Rattle.rinex.specs.Fit.{unpacked}
use Rattle.rinex.specs.Normal.{spaced}

-- codes, a blank before each
abbrev pub codes_text : List ℕ → List ℕ
codes_text codes = spaced (map unpacked codes)

-- they are three bytes each
abbrev pub CodesLie : List ℕ → Type 0
CodesLie codes = (k : ℕ) → k < length codes → get_or codes k 0 < 16777216
