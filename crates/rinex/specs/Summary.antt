-- What the summary program writes.
use Rattle.std.specs.Prelude.{ℕ, ◌+◌, ◌≤◌, ◌<◌, ◌≡◌, List, [], ◌∷◌, ◌++◌, length, ℤ}
use Prim.Native.String.{String}
use Rattle.std.specs.Prelude.{Option, None, Some}
use Rattle.lists.specs.Lists.{bytes}
use Rattle.write_field.specs.Normal.{digits}
use Rattle.line.specs.Text.{text}
use Rattle.rinex.specs.File.{Slot, Epoch, observed, event, File}
use Rattle.rinex.specs.Spells.{Spells}
use Rattle.rinex.specs.Tables.{Room, all_rows, all_slots}
use Rattle.rinex.specs.Refusals.{Verdict, accepted, refused, verdict}

-- "reads up to 32,768 bytes, with room for 256 epochs, 512 rows, 2,048 slots and 4,096 carried bytes"
abbrev pub longest_input : ℕ
longest_input = 32768

abbrev pub its_room : Room
its_room = record { codes = 448; epochs = 256; rows = 512; slots = 2048; carried = 4096 }

-- "Epochs counts flags 0 and 1, events the others."
abbrev pub observed_ones : List Epoch → ℕ
observed_ones [] = 0
observed_ones (observed o ∷ es) = 1 + observed_ones es
observed_ones (event v ∷ es) = observed_ones es

abbrev pub event_ones : List Epoch → ℕ
event_ones [] = 0
event_ones (observed o ∷ es) = event_ones es
event_ones (event v ∷ es) = 1 + event_ones es

-- "blank counts blank values"
abbrev pub no_value : Option ℤ → ℕ
no_value None = 1
no_value (Some z) = 0

abbrev pub blank_ones : List Slot → ℕ
blank_ones [] = 0
blank_ones (s ∷ ss) = no_value s.value + blank_ones ss

-- a name and a number
unfoldable pub entry : String → ℕ → List ℕ
entry name n = bytes name ++ (61 ∷ digits 20 n)

-- the text of an acceptance, by its numbers and of a file
unfoldable pub tally_text : (epochs events rows slots blank : ℕ) → List ℕ
tally_text epochs events rows slots blank =
    text
    (bytes "result=accepted"
    ∷ entry "epochs" epochs
    ∷ entry "events" events
    ∷ entry "rows" rows
    ∷ entry "slots" slots
    ∷ entry "blank" blank
    ∷ [])

abbrev pub accepted_text : File → List ℕ
accepted_text f =
    let slots = all_slots (all_rows f.epochs) in
    tally_text (observed_ones f.epochs) (event_ones f.epochs) (length (all_rows f.epochs)) (length slots) (blank_ones slots)

unfoldable pub refused_text : ℕ → ℕ → List ℕ
refused_text number line = text (bytes "result=refused" ∷ entry "number" number ∷ entry "line" line ∷ [])

unfoldable pub too_long_text : List ℕ
too_long_text = text (bytes "result=toolong" ∷ [])

-- of an input that is not too long, by its verdict
abbrev pub Judged : List ℕ → List ℕ → Verdict → Type 0
Judged t out (accepted n) = (f : File) × Spells t f × (out ≡ accepted_text f)
Judged t out (refused number line) = out ≡ refused_text number line

-- the output for the input t; "longer input gives `result=toolong` alone"
pub record Summary (t out : List ℕ) : Type 0 where
  pub short : length t ≤ longest_input → Judged t out (verdict its_room t)
  pub long : longest_input < length t → out ≡ too_long_text
