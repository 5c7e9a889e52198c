-- The header that tables hold, and what is asked of it.
use Rattle.std.specs.Prelude.{ℕ, ◌*◌, ◌≡◌, true, List, ◌∷◌, ◌++◌, map}
use Rattle.std.specs.Prelude.{Option}
use Rattle.line.specs.Text.{text, Raw}
use Rattle.rinex.specs.Tables.{FlatHead}
use Rattle.rinex.specs.Fit.{head_fits, part, unpacked, all_lists_fit}
use Rattle.rinex.specs.Held.{optional, lists_at, head_at}
use Rattle.rinex.specs.Normal.{version_line_of, list_lines, all_lists, first_line_of, interval_lines, head_lines}
use Rattle.write_lines.specs.Lines.{are_held}

-- the text of system s's list, of n codes; of the lists of the systems from s on
abbrev pub list_text : ℕ → ℕ → List ℕ → List ℕ
list_text s n codes = text (list_lines s (map unpacked (part codes (64 * s) n)))

abbrev pub lists_text : ℕ → (lengths codes : List ℕ) → List ℕ
lists_text s lengths codes = text (all_lists s (lists_at s lengths codes))

-- the line of the interval, if it is held
abbrev pub interval_text : Option ℕ → List ℕ
interval_text n = text (interval_lines n)

-- the lines before those that are carried
abbrev pub top_lines : FlatHead → List ℕ → List (List ℕ)
top_lines h codes =
    version_line_of h.letter ∷ (all_lists 0 (lists_at 0 h.lengths codes) ++ (first_line_of h.first h.time_system ∷ interval_lines (optional h.interval_state h.interval)))

abbrev pub top_text : FlatHead → List ℕ → List ℕ
top_text h codes = text (top_lines h codes)

-- the header, with the carried lines
abbrev pub head_text : FlatHead → List ℕ → List Raw → List ℕ
head_text h codes ws = text (head_lines (head_at h codes ws))

-- it fits
pub record HeadReady (h : FlatHead) (codes : List ℕ) (ws : List Raw) : Type 0 where
  pub head : head_fits h ≡ true
  pub lists : all_lists_fit h.letter h.lengths codes ≡ true
  pub lines : are_held h.header_lines ws ≡ true
