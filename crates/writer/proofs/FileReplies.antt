-- The replies of writing a file keep its promise. Assumes nothing.
use Prim.Native.Nat.{ℕ, ◌+◌, ◌-◌, ◌≤◌, ◌<◌, min}
use mathlib.Core.Path.{◌≡◌, sym, ap, ◌∙◌, subst}
use mathlib.Core.Bool.{true, false}
use mathlib.Core.List.{List}
use native.Mathlib.Omega.{arith}
use lib.ListN.{length}
use lib.Seq.{sets}
use Rattle.lists.proofs.Bools.{never}
use Rattle.line.specs.Text.{longest}
use Rattle.rinex.specs.File.{File}
use Rattle.rinex.specs.Tables.{FlatHead, Counts, Buffers}
use Rattle.rinex.specs.Fit.{tables_fit}
use Rattle.rinex.specs.Held.{file_at}
use Rattle.rinex.specs.Normal.{normal}
use Rattle.rinex.specs.Promises.{Spelled, written, no_text, no_place, Write}
use Rattle.rinex.proofs.FitTables.{fit_tables}
use Rattle.rinex.proofs.HeldFile.{held_file}
use Rattle.measure.specs.Size.{text_size, Told}
use Rattle.measure.proofs.TextSize.{text_size_lem}
use Rattle.writer.proofs.Replied as replied

module _ (h : FlatHead) (n : Counts) (b : Buffers) (o : List ℕ) (at : ℕ) where
  pub no_tables : tables_fit h n b ≡ false → Write h n b o o at no_text
  no_tables e = replied.unspelled (Spelled h n b) normal o at (λ f p. never (sym e ∙ fit_tables.complete h n b f p))

  module _ (fit : tables_fit h n b ≡ true) (m r : ℕ) (place : m ≡ min (length o - at) longest) (told : Told m (text_size h n b) r) where
    abbrev file : File
    file = (fit_tables.sound h n b fit).0

    spelled : Spelled h n b file
    spelled = (fit_tables.sound h n b fit).1

    told_file : Told m (length (normal file)) r
    told_file = subst (λ (s : ℕ). Told m s r) (sym (text_size_lem h n b file spelled)) told

    not_empty : 0 < length (normal file)
    not_empty = omega (arith, text_size_lem h n b file spelled)

    pub no_place_for : m < r → Write h n b o o at no_place
    no_place_for e = replied.unplaced (Spelled h n b) normal o at file spelled m r place told_file e

    module _ (room : r ≤ m) where
      pub ends_within : at + length (normal (file_at h n b)) ≤ length o
      ends_within =
          let l : length (normal (file_at h n b)) ≡ length (normal file) = ap (λ (f : File). length (normal f)) (held_file h n b file spelled) in
          omega (arith, l, (replied.fits_in (normal file) o at m r place told_file not_empty room).1.buffer)

      pub wrote : (after : List ℕ) → after ≡ sets o at (normal (file_at h n b)) → Write h n b o after at (written r)
      wrote after e = replied.done (Spelled h n b) normal o at file spelled m r place told_file after not_empty room (e ∙ ap (λ (f : File). sets o at (normal f)) (held_file h n b file spelled))
