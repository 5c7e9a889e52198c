-- Epochs one after the other. Assumes nothing.
use Prim.Native.Nat.{ℕ, zero, suc, ◌+◌, ◌-◌, ◌≤◌, ◌<◌}
use mathlib.Core.Path.{◌≡◌, refl, sym, ap, ◌∙◌}
use mathlib.Core.Bool.{Bool, true, false, cond, ◌&&◌}
use mathlib.Core.List.{List, []}
use Rattle.std.specs.Prelude.{Option, None, Some}
use native.Mathlib.Omega.{arith}
use borrow.Author.Tests.{le-leb, lt-leb, leb-true}
use lib.Dec.{eqb, leb}
use lib.ListN.{drop}
use Rattle.lists.specs.Lists.{fresh}
use Rattle.lists.specs.Maybe.{when, ◌>>=◌}
use Rattle.lists.proofs.Bools.{both}
use Rattle.lists.proofs.Maybe.{when_some, bind_some, some_one}
use Rattle.rinex.specs.Tables.{FlatEpoch, Counts, Buffers}
use Rattle.rinex.specs.Fit.{Untaken, part, slots_fit, codes_of_row, row_fits, rows_fit, observed_fits, event_fits, entry_at, epoch_fits, epochs_fit, behind_rows}
use Rattle.fits.proofs.Alone.{rows_alone}
use Rattle.fits.specs.Stepping.{observed_entry, observed_step, event_step}
use Rattle.fits_rows.proofs.Slotted.{slots_same}
use Rattle.fits.proofs.Stepped.{observed_parts, rows_within}

-- by the flag
module _ (lengths : List ℕ) (n : Counts) (b : Buffers) (e : FlatEpoch) (c : Untaken) where
  pub epoch_observed : e.flag ≤ 1 → observed_step lengths n b e c ≡ epoch_fits lengths n b e c
  unfolding observed_step event_step epoch_fits
  epoch_observed h = sym (ap (λ (t : Bool). cond t (observed_step lengths n b e c) (event_step e c)) (le-leb e.flag 1 h))

  pub epoch_event : 1 < e.flag → event_step e c ≡ epoch_fits lengths n b e c
  unfolding observed_step event_step epoch_fits
  epoch_event h = sym (ap (λ (t : Bool). cond t (observed_step lengths n b e c) (event_step e c)) (lt-leb e.flag 1 h))

-- an epoch sees no other buffer than those of rows and slots
module _ (lengths : List ℕ) (n : Counts) (b : Buffers) where
  row_same : (j i : ℕ) → row_fits lengths n (rows_alone b) j i ≡ row_fits lengths n b j i
  unfolding row_fits
  row_same j i =
      let k = codes_of_row lengths b j in
      let e : slots_fit (rows_alone b) k i ≡ slots_fit b k i = sym (slots_same (rows_alone b) k i) ∙ slots_same b k i in
      rw e

  rows_same : (k j i : ℕ) → rows_fit lengths n (rows_alone b) k j i ≡ rows_fit lengths n b k j i
  unfolding rows_fit
  rows_same zero j i = refl
  rows_same (suc k) j i = ap (λ (t : Bool). when t (i + codes_of_row lengths b j) >>= rows_fit lengths n (rows_alone b) k (j + 1)) (row_same j i) ∙ on (when (row_fits lengths n b j i) (i + codes_of_row lengths b j)) (λ i. rows_same k (j + 1) i)
    where
      on : (o : Option ℕ) → ((i : ℕ) → rows_fit lengths n (rows_alone b) k (j + 1) i ≡ rows_fit lengths n b k (j + 1) i) → (o >>= rows_fit lengths n (rows_alone b) k (j + 1)) ≡ (o >>= rows_fit lengths n b k (j + 1))
      on None f = refl
      on (Some x) f = f x

  module _ (e : FlatEpoch) (c : Untaken) where
    step_same : observed_step lengths n (rows_alone b) e c ≡ observed_step lengths n b e c
    unfolding observed_step observed_fits
    step_same = go (observed_fits n b e c)
      where
        go : (f : Bool) → (when f c.row >>= λ j. rows_fit lengths n (rows_alone b) e.count j c.slot >>= λ i. Some (behind_rows e c i)) ≡ (when f c.row >>= λ j. rows_fit lengths n b e.count j c.slot >>= λ i. Some (behind_rows e c i))
        go true = ap (λ (o : Option ℕ). o >>= λ i. Some (behind_rows e c i)) (rows_same e.count c.row c.slot)
        go false = refl

    pub epoch_same : epoch_fits lengths n (rows_alone b) e c ≡ epoch_fits lengths n b e c
    unfolding observed_step event_step epoch_fits
    epoch_same = ap (λ (s : Option Untaken). cond (leb e.flag 1) s (event_step e c)) step_same

    -- the entry is the one of place i
    pub epoch_at : (i : ℕ) → e ≡ entry_at b i → epoch_fits lengths n (rows_alone b) e c ≡ epoch_fits lengths n b (entry_at b i) c
    epoch_at i h = epoch_same ∙ ap (λ (x : FlatEpoch). epoch_fits lengths n b x c) h

    -- what is untaken stays within the rows and slots that are used
    module _ (r : c.row ≤ n.rows) (s : c.slot ≤ n.slots) (d : Untaken) where
      observed_within : observed_step lengths n b e c ≡ Some d → (d.row ≤ n.rows) × (d.slot ≤ n.slots)
      unfolding observed_step
      observed_within h =
          let p = bind_some (when (observed_fits n b e c) c.row) (λ j. rows_fit lengths n b e.count j c.slot >>= λ i. Some (behind_rows e c i)) d h in
          let q = bind_some (rows_fit lengths n b e.count p.0 c.slot) (λ i. Some (behind_rows e c i)) d p.2 in
          let f = when_some (observed_fits n b e c) c.row p.0 p.1 in
          let g = some_one (behind_rows e c q.0) d q.2 in
          let x : c.row + e.count ≡ d.row = ap (λ (y : Untaken). y.row) g in
          let z : q.0 ≡ d.slot = ap (λ (y : Untaken). y.slot) g in
          let o = both (observed_entry e c.last) (leb (c.row + e.count) n.rows && fresh eqb [] (part b.satellites c.row e.count)) (sym (observed_parts lengths n b e c) ∙ f.0) in
          let m : c.row + e.count ≤ n.rows = leb-true (c.row + e.count) n.rows (both (leb (c.row + e.count) n.rows) (fresh eqb [] (part b.satellites c.row e.count)) o.1).0 in
          let w : q.0 ≤ n.slots = rows_within lengths n b e.count p.0 c.slot q.0 s q.1 in
          (omega arith, omega arith)

      event_within : event_step e c ≡ Some d → (d.row ≤ n.rows) × (d.slot ≤ n.slots)
      unfolding event_step
      event_within h =
          let g = (when_some (event_fits e c) (record { row = c.row; slot = c.slot; lines = drop e.count c.lines; last = c.last }) d h).1 in
          let x : c.row ≡ d.row = ap (λ (y : Untaken). y.row) g in
          let z : c.slot ≡ d.slot = ap (λ (y : Untaken). y.slot) g in
          (omega arith, omega arith)

      pub epoch_within : epoch_fits lengths n b e c ≡ Some d → (d.row ≤ n.rows) × (d.slot ≤ n.slots)
      unfolding observed_step event_step epoch_fits
      epoch_within h = go (leb e.flag 1) h
        where
          go : (t : Bool) → cond t (observed_step lengths n b e c) (event_step e c) ≡ Some d → (d.row ≤ n.rows) × (d.slot ≤ n.slots)
          go true k = observed_within k
          go false k = event_within k

  -- a turn of the loop, at entry e of those up to another
  module _ (e to : ℕ) (c : Untaken) where
    pub epochs_over : to ≤ e → epochs_fit lengths n b (to - e) e c ≡ Some c
    unfolding epochs_fit
    epochs_over h = let d : to - e ≡ 0 = omega arith in ap (λ (m : ℕ). epochs_fit lengths n b m e c) d

    module _ (h : e < to) where
      epochs_next : epochs_fit lengths n b (to - e) e c ≡ (epoch_fits lengths n b (entry_at b e) c >>= epochs_fit lengths n b (to - (e + 1)) (e + 1))
      unfolding epochs_fit
      epochs_next = let d : to - e ≡ suc (to - (e + 1)) = omega arith in ap (λ (m : ℕ). epochs_fit lengths n b m e c) d

      pub epochs_stop : None ≡ epoch_fits lengths n b (entry_at b e) c → epochs_fit lengths n b (to - e) e c ≡ None
      epochs_stop f = epochs_next ∙ ap (λ (o : Option Untaken). o >>= epochs_fit lengths n b (to - (e + 1)) (e + 1)) (sym f)

      pub epochs_more : (d : Untaken) → Some d ≡ epoch_fits lengths n b (entry_at b e) c → epochs_fit lengths n b (to - e) e c ≡ epochs_fit lengths n b (to - (e + 1)) (e + 1) d
      epochs_more d f = epochs_next ∙ ap (λ (o : Option Untaken). o >>= epochs_fit lengths n b (to - (e + 1)) (e + 1)) (sym f)
