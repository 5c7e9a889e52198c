-- What epochs hold is seen in the buffers of rows and slots alone, and in those of the epoch table. Assumes nothing.
use Prim.Native.Nat.{ℕ, zero, suc, ◌+◌}
use mathlib.Core.Path.{◌≡◌, refl, sym, ap, ◌∙◌}
use mathlib.Core.Bool.{cond}
use mathlib.Core.List.{List, ◌∷◌}
use lib.Dec.{leb}
use lib.ListN.{length, take, drop}
use Rattle.line.specs.Text.{Raw}
use Rattle.rinex.specs.File.{Slot, Row, Epoch, observed, event}
use Rattle.rinex.specs.Tables.{rows_of, lines_of, FlatEpoch, all_slots, Buffers}
use Rattle.rinex.specs.Fit.{codes_of_row, entry_at}
use Rattle.rinex.specs.Held.{optional, bytes_of, slots_at, row_at, rows_at, epoch_at, epochs_at}
use Rattle.fits.proofs.Alone.{rows_alone, data_alone}
use Rattle.write_rows.proofs.Fitting.{slots_held}

module _ (lengths : List ℕ) (b : Buffers) where
  slots_same : (k i : ℕ) → slots_at (rows_alone b) k i ≡ slots_at b k i
  slots_same k i = sym (slots_held (rows_alone b) k i) ∙ slots_held b k i

  rows_same : (k j i : ℕ) → rows_at lengths (rows_alone b) k j i ≡ rows_at lengths b k j i
  unfolding rows_at
  rows_same zero j i = refl
  rows_same (suc k) j i =
      let n = codes_of_row lengths b j in
      let p : row_at lengths (rows_alone b) j i ≡ row_at lengths b j i = ap (λ (x : List Slot). record { system = (row_at lengths b j i).system; number = (row_at lengths b j i).number; slots = x }) (slots_same n i) in
      let q : rows_at lengths (rows_alone b) k (j + 1) (i + n) ≡ rows_at lengths b k (j + 1) (i + n) = rows_same k (j + 1) (i + n) in
      λ t. p t ∷ q t

  pub epoch_same : (e : FlatEpoch) (j i : ℕ) (ws : List Raw) → epoch_at lengths (rows_alone b) e j i ws ≡ epoch_at lengths b e j i ws
  unfolding epoch_at
  epoch_same e j i ws =
      ap (λ (x : List Row). cond (leb e.flag 1) (observed (record { time = e.time; flag = e.flag; clock = optional e.clock_state e.clock; rows = x }))
      (event (record { time = optional e.time_state e.time; flag = e.flag; lines = bytes_of (take e.count ws) })))
      (rows_same e.count j i)

pub epochs_same : (lengths : List ℕ) (b : Buffers) (k e j i : ℕ) (ws : List Raw) → epochs_at lengths (data_alone b) k e j i ws ≡ epochs_at lengths b k e j i ws
unfolding epochs_at
epochs_same lengths b zero e j i ws = refl
epochs_same lengths b (suc k) e j i ws =
    let p : epoch_at lengths (data_alone b) (entry_at b e) j i ws ≡ epoch_at lengths b (entry_at b e) j i ws =
    sym (epoch_same lengths (data_alone b) (entry_at b e) j i ws) ∙ epoch_same lengths b (entry_at b e) j i ws in
    ap (λ (y : Epoch). y ∷ epochs_at lengths (data_alone b) k (e + 1) (j + length (rows_of y)) (i + length (all_slots (rows_of y))) (drop (length (lines_of y)) ws)) p
    ∙ (let x = epoch_at lengths b (entry_at b e) j i ws in ap (λ (y : List Epoch). x ∷ y) (epochs_same lengths b k (e + 1) (j + length (rows_of x)) (i + length (all_slots (rows_of x))) (drop (length (lines_of x)) ws)))
