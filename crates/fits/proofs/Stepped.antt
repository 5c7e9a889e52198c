-- Epochs, test by test. Assumes nothing.
use Prim.Native.Nat.{ℕ, zero, suc, ◌+◌, ◌-◌, ◌/◌, ◌%◌, ◌≤◌, ◌<◌}
use mathlib.Core.Path.{◌≡◌, refl, sym, ap, ◌∙◌}
use mathlib.Core.Bool.{Bool, true, false, not, ◌&&◌, ◌||◌, and_assoc}
use mathlib.Core.List.{List, [], ◌∷◌}
use Rattle.std.specs.Prelude.{Option, None, Some}
use native.Mathlib.Omega.{arith}
use borrow.Author.Tests.{eq-eqb, ne_eqb, le-leb, lt-leb, lt-ltb, ltb-true}
use lib.Dec.{eqb, leb, ltb}
use lib.ListN.{length, get_or, take, drop}
use Rattle.lists.specs.Lists.{fresh, every}
use Rattle.lists.proofs.Parts.{next}
use Rattle.lists.proofs.Maybe.{when_some, bind_some, some_one}
use Rattle.line.specs.Text.{Raw, split}
use Rattle.lists.specs.Maybe.{when, ◌>>=◌}
use Rattle.lists.proofs.Bools.{both}
use Rattle.rinex.specs.Data.{is_nought, later}
use Rattle.rinex.specs.Tables.{FlatEpoch, Counts, Buffers}
use Rattle.rinex.specs.Fit.{Untaken, part, is_time, state_fits, number_fits, codes_of_row, row_fits, slots_fit, rows_fit, observed_fits, event_lines_fit, some_marker, event_fits, behind_rows}
use Rattle.fits_values.specs.Apart.{apart}
use Rattle.fits_rows.specs.Carried.{lines_fit, Ran}
use Rattle.fits.specs.Stepping.{observed_entry, event_entry, observed_step, event_step}
use Rattle.lists.proofs.Chain.{stop, after}
use Rattle.fits_values.proofs.Parted.{apart_fresh}
use Rattle.fits_rows.proofs.Slotted.{row_within}
use Rattle.fits_rows.proofs.Running.{event_lines}

-- what fit rows say of their satellites, and where their slots end
low : (s : ℕ) → ltb (s / 100) 7 ≡ true → ltb s 700 ≡ true
low s h = let k : s / 100 < 7 = ltb-true (s / 100) 7 h in lt-ltb s 700 (omega arith)

module _ (lengths : List ℕ) (n : Counts) (b : Buffers) where
  abbrev system_fits : ℕ → Bool
  system_fits j = ltb (get_or b.satellites j 0 / 100) 7

  row_system : (j i e : ℕ) → when (row_fits lengths n b j i) (i + codes_of_row lengths b j) ≡ Some e → system_fits j ≡ true
  unfolding row_fits
  row_system j i e h =
      let s = get_or b.satellites j 0 in
      let k = codes_of_row lengths b j in
      (both (ltb (s / 100) 7) (leb 1 (s % 100) && (leb 1 k && (leb (i + k) n.slots && slots_fit b k i))) (when_some (row_fits lengths n b j i) (i + k) e h).0).0

  rows_low : (k j i e : ℕ) → j + k ≤ length b.satellites → rows_fit lengths n b k j i ≡ Some e → every (λ s. ltb s 700) (part b.satellites j k) ≡ true
  unfolding rows_fit
  rows_low zero j i e h f = refl
  rows_low (suc k) j i e h f =
      let p = bind_some (when (row_fits lengths n b j i) (i + codes_of_row lengths b j)) (rows_fit lengths n b k (j + 1)) e f in
      let l : ltb (get_or b.satellites j 0) 700 ≡ true = low (get_or b.satellites j 0) (row_system j i p.0 p.1) in
      let u : drop j b.satellites ≡ get_or b.satellites j 0 ∷ drop (j + 1) b.satellites = next b.satellites j (omega arith) in
      ap (λ (x : List ℕ). every (λ s. ltb s 700) (take (suc k) x)) u ∙ sym (after l (sym (rows_low k (j + 1) p.0 e (omega arith) p.2)))

  pub rows_within : (k j i e : ℕ) → i ≤ n.slots → rows_fit lengths n b k j i ≡ Some e → e ≤ n.slots
  unfolding rows_fit
  rows_within zero j i e h f = let g : i ≡ e = some_one i e f in omega arith
  rows_within (suc k) j i e h f =
      let p = bind_some (when (row_fits lengths n b j i) (i + codes_of_row lengths b j)) (rows_fit lengths n b k (j + 1)) e f in
      rows_within k (j + 1) p.0 e (row_within lengths n b j i p.0 (sym p.1)) p.2

-- flag 0 or 1
and_regroup : (a b x c d f : Bool) → (a && (b && (x && (c && (d && f))))) ≡ ((a && (b && (x && (c && d)))) && f)
and_regroup true true true true d f = refl
and_regroup true true true false d f = refl
and_regroup true true false c d f = refl
and_regroup true false x c d f = refl
and_regroup false b x c d f = refl

module _ (lengths : List ℕ) (n : Counts) (b : Buffers) (e : FlatEpoch) (c : Untaken) where
  pub observed_parts : observed_fits n b e c ≡ (observed_entry e c.last && (leb (c.row + e.count) n.rows && fresh eqb [] (part b.satellites c.row e.count)))
  unfolding observed_fits observed_entry
  observed_parts =
      and_regroup (eqb e.time_state 1) (is_time e.time) (later c.last e.time) (number_fits 15 12 e.clock_state e.clock) (leb e.count 999)
      (leb (c.row + e.count) n.rows && fresh eqb [] (part b.satellites c.row e.count))

  unfit_step : observed_fits n b e c ≡ false → None ≡ observed_step lengths n b e c
  unfolding observed_step
  unfit_step h = sym (ap (λ (f : Bool). when f c.row >>= λ j. rows_fit lengths n b e.count j c.slot >>= λ i. Some (behind_rows e c i)) h)

  pub no_entry : observed_entry e c.last ≡ false → None ≡ observed_step lengths n b e c
  no_entry h = unfit_step (observed_parts ∙ sym (stop _ h))

  module _ (a : observed_entry e c.last ≡ true) where
    pub no_rows : n.rows < c.row + e.count → None ≡ observed_step lengths n b e c
    no_rows h = unfit_step (observed_parts ∙ sym (after a (stop _ (lt-leb (c.row + e.count) n.rows h))))

    module _ (r : c.row + e.count ≤ n.rows) where
      pub rows_unfit : None ≡ rows_fit lengths n b e.count c.row c.slot → None ≡ observed_step lengths n b e c
      unfolding observed_step
      rows_unfit h = go (observed_fits n b e c)
        where
          go : (f : Bool) → None ≡ (when f c.row >>= λ j. rows_fit lengths n b e.count j c.slot >>= λ i. Some (behind_rows e c i))
          go true = ap (λ (o : Option ℕ). o >>= λ i. Some (behind_rows e c i)) h
          go false = refl

      module _ (i : ℕ) (s : Some i ≡ rows_fit lengths n b e.count c.row c.slot) (w : n.rows ≤ length b.satellites) where
        apart_is : apart [] (part b.satellites c.row e.count) ≡ observed_fits n b e c
        apart_is =
            apart_fresh (part b.satellites c.row e.count) [] (rows_low lengths n b e.count c.row c.slot i (omega arith) (sym s))
            ∙ (after a (after (le-leb (c.row + e.count) n.rows r) refl) ∙ sym observed_parts)

        there : part b.satellites c.row (c.row + e.count - c.row) ≡ part b.satellites c.row e.count
        there = let d : c.row + e.count - c.row ≡ e.count = omega arith in rw d

        pub not_apart : apart [] (part b.satellites c.row (c.row + e.count - c.row)) ≡ false → None ≡ observed_step lengths n b e c
        not_apart h = unfit_step (sym apart_is ∙ (ap (apart []) (sym there) ∙ h))

        pub observed_is : apart [] (part b.satellites c.row (c.row + e.count - c.row)) ≡ true → Some (behind_rows e c i) ≡ observed_step lengths n b e c
        unfolding observed_step
        observed_is h =
            let f : observed_fits n b e c ≡ true = sym apart_is ∙ (ap (apart []) (sym there) ∙ h) in
            ap (λ (o : Option ℕ). o >>= λ i. Some (behind_rows e c i)) s
            ∙ sym (ap (λ (f : Bool). when f c.row >>= λ j. rows_fit lengths n b e.count j c.slot >>= λ i. Some (behind_rows e c i)) f)

-- another flag
module _ (e : FlatEpoch) (c : Untaken) where
  event_parts : event_fits e c
      ≡ (event_entry e && (lines_fit true e.count c.lines && (not (eqb e.flag 3) || some_marker (take e.count c.lines))))
  unfolding event_fits event_entry
  event_parts =
      let x = leb e.count (length c.lines) in
      let y = event_lines_fit (take e.count c.lines) in
      let z = not (eqb e.flag 3) || some_marker (take e.count c.lines) in
      and_regroup (leb e.flag 5) (state_fits e.time_state (eqb e.time 0 && leb e.flag 4) (is_time e.time)) (eqb e.clock_state 0) (is_nought e.clock) (leb e.count 999)
      (x && (y && z))
      ∙ ap (λ (t : Bool). event_entry e && t) (sym (and_assoc x y z) ∙ ap (λ (t : Bool). t && z) (sym (event_lines e.count c.lines)))

  abbrev behind : Untaken
  behind = record { row = c.row; slot = c.slot; lines = drop e.count c.lines; last = c.last }

  unfit_event : event_fits e c ≡ false → None ≡ event_step e c
  unfolding event_step
  unfit_event h = sym (ap (λ (f : Bool). when f behind) h)

  pub no_event : event_entry e ≡ false → None ≡ event_step e c
  no_event h = unfit_event (event_parts ∙ sym (stop _ h))

  module _ (a : event_entry e ≡ true) where
    pub no_lines : lines_fit true e.count c.lines ≡ false → None ≡ event_step e c
    no_lines h = unfit_event (event_parts ∙ sym (after a (stop _ h)))

    module _ (t : List ℕ) (p : ℕ) (m : Bool) (r : Ran true t e.count c.lines p m) where
      pub no_marker : e.flag ≡ 3 → m ≡ false → None ≡ event_step e c
      no_marker f h =
          unfit_event (event_parts ∙ sym (after a (after r.fit
          (sym (ap (λ (t : Bool). not t || some_marker (take e.count c.lines)) (eq-eqb e.flag 3 f) ∙ (sym r.marker ∙ h))))))

      done : (not (eqb e.flag 3) || some_marker (take e.count c.lines)) ≡ true → Some (record { row = c.row; slot = c.slot; lines = split (drop p t); last = c.last }) ≡ event_step e c
      unfolding event_step
      done h =
          let f : event_fits e c ≡ true = event_parts ∙ sym (after a (after r.fit (sym h))) in
          ap (λ (ws : List Raw). Some (record { row = c.row; slot = c.slot; lines = ws; last = c.last })) (sym r.rest) ∙ sym (ap (λ (f : Bool). when f behind) f)

      pub marked : m ≡ true → Some (record { row = c.row; slot = c.slot; lines = split (drop p t); last = c.last }) ≡ event_step e c
      marked h = done (ap (λ (t : Bool). not (eqb e.flag 3) || t) (sym r.marker ∙ h) ∙ or_true (not (eqb e.flag 3)))
        where
          or_true : (b : Bool) → (b || true) ≡ true
          or_true true = refl
          or_true false = refl

      pub unasked : (e.flag ≡ 3 → ⊥) → Some (record { row = c.row; slot = c.slot; lines = split (drop p t); last = c.last }) ≡ event_step e c
      unasked h = done (ap (λ (t : Bool). not t || some_marker (take e.count c.lines)) (ne_eqb e.flag 3 h))
