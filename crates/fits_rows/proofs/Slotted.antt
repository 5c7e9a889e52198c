-- Rows and their slots, as the code walks them. Assumes nothing.
use Prim.Native.Nat.{ℕ, zero, suc, ◌+◌, ◌-◌, ◌/◌, ◌%◌, ◌≤◌, ◌<◌}
use mathlib.Core.Path.{◌≡◌, refl, sym, ap, ◌∙◌}
use mathlib.Core.Bool.{Bool, true, false, ◌&&◌}
use mathlib.Core.List.{List, []}
use Rattle.std.specs.Prelude.{Option, None, Some}
use native.Mathlib.Omega.{arith}
use borrow.Author.Tests.{lt-ltb, le-leb, lt-leb}
use lib.Dec.{leb}
use lib.ListN.{get_or}
use Rattle.lists.specs.Maybe.{when, ◌>>=◌}
use Rattle.lists.proofs.Maybe.{when_some}
use Rattle.rinex.specs.Tables.{Counts, Buffers}
use Rattle.rinex.specs.Fit.{slot_fits, slots_fit, codes_of_row, row_fits, rows_fit}
use Rattle.rinex.specs.Lent.{of_rows}
use Rattle.lists.proofs.Chain.{stop, after, unfit, fit}
use Rattle.rinex.proofs.Lent.{row_slots}

-- the slots from place i up to another
module _ (b : Buffers) (i to : ℕ) where
  pub slots_over : to ≤ i → slots_fit b (to - i) i ≡ true
  unfolding slots_fit
  slots_over h = let e : to - i ≡ 0 = omega arith in rw e

  module _ (h : i < to) where
    slots_next : slots_fit b (to - i) i ≡ (slot_fits b i && slots_fit b (to - (i + 1)) (i + 1))
    unfolding slots_fit
    slots_next = let e : to - i ≡ suc (to - (i + 1)) = omega arith in ap (λ (m : ℕ). slots_fit b m i) e

    pub slots_stop : slot_fits b i ≡ false → slots_fit b (to - i) i ≡ false
    slots_stop e = slots_next ∙ sym (stop _ e)

    pub slots_more : slot_fits b i ≡ true → slots_fit b (to - i) i ≡ slots_fit b (to - (i + 1)) (i + 1)
    slots_more e = slots_next ∙ sym (after e refl)

-- they see no other buffer
pub slots_same : (b : Buffers) (k i : ℕ) → slots_fit (of_rows [] b.numbers b.states b.losses b.strengths) k i ≡ slots_fit b k i
unfolding slots_fit
slots_same b zero i = refl
slots_same b (suc k) i = ap (λ (t : Bool). slot_fits b i && t) (slots_same b k (i + 1))

-- one row, with k codes
module _ (lengths : List ℕ) (n : Counts) (b : Buffers) (j i : ℕ) where
  module _ (a : get_or b.satellites j 0 / 100 < 7) where
    module _ (c : get_or b.satellites j 0 % 100 ≡ 0 → ⊥) (k : ℕ) (ek : k ≡ codes_of_row lengths b j) where
      numbered : leb 1 (get_or b.satellites j 0 % 100) ≡ true
      numbered = le-leb 1 (get_or b.satellites j 0 % 100) (omega arith)

      pub no_codes : k ≡ 0 → None ≡ when (row_fits lengths n b j i) (i + codes_of_row lengths b j)
      unfolding row_fits
      no_codes e = unfit _ (after (lt-ltb (get_or b.satellites j 0 / 100) 7 a) (after numbered (stop _ (lt-leb 1 (codes_of_row lengths b j) (omega arith)))))

      module _ (d : k ≡ 0 → ⊥) where
        coded : leb 1 (codes_of_row lengths b j) ≡ true
        coded = le-leb 1 (codes_of_row lengths b j) (omega arith)

        pub no_slots : n.slots < i + k → None ≡ when (row_fits lengths n b j i) (i + codes_of_row lengths b j)
        unfolding row_fits
        no_slots e =
            unfit _ (after (lt-ltb (get_or b.satellites j 0 / 100) 7 a) (after numbered (after coded (stop _ (lt-leb (i + codes_of_row lengths b j) n.slots (omega arith))))))

        module _ (f : i + k ≤ n.slots) (g : Bool) (eg : g ≡ slots_fit (of_rows [] b.numbers b.states b.losses b.strengths) k i) where
          slots_are : g ≡ row_fits lengths n b j i
          unfolding row_fits
          slots_are =
              after (lt-ltb (get_or b.satellites j 0 / 100) 7 a) (after numbered (after coded (after (le-leb (i + codes_of_row lengths b j) n.slots (omega arith))
              (eg ∙ (slots_same b k i ∙ ap (λ (m : ℕ). slots_fit b m i) ek)))))

          pub slots_unfit : g ≡ false → None ≡ when (row_fits lengths n b j i) (i + codes_of_row lengths b j)
          slots_unfit e = unfit _ (sym e ∙ slots_are)

          pub row_is : g ≡ true → Some (i + k) ≡ when (row_fits lengths n b j i) (i + codes_of_row lengths b j)
          row_is e = ap (λ (m : ℕ). Some (i + m)) ek ∙ fit _ (sym e ∙ slots_are)

  -- a fit row stays within the slots
  pub row_within : (e : ℕ) → Some e ≡ when (row_fits lengths n b j i) (i + codes_of_row lengths b j) → e ≤ n.slots
  row_within e h =
      let w = when_some (row_fits lengths n b j i) (i + codes_of_row lengths b j) e (sym h) in
      omega (arith, (row_slots lengths n b j i w.0).0, w.1)

-- the rows from place j up to another
module _ (lengths : List ℕ) (n : Counts) (b : Buffers) (j to i : ℕ) where
  pub rows_over : to ≤ j → rows_fit lengths n b (to - j) j i ≡ Some i
  unfolding rows_fit
  rows_over h = let e : to - j ≡ 0 = omega arith in ap (λ (m : ℕ). rows_fit lengths n b m j i) e

  module _ (h : j < to) where
    rows_next : rows_fit lengths n b (to - j) j i ≡ (when (row_fits lengths n b j i) (i + codes_of_row lengths b j) >>= rows_fit lengths n b (to - (j + 1)) (j + 1))
    unfolding rows_fit
    rows_next = let e : to - j ≡ suc (to - (j + 1)) = omega arith in ap (λ (m : ℕ). rows_fit lengths n b m j i) e

    pub rows_stop : None ≡ when (row_fits lengths n b j i) (i + codes_of_row lengths b j) → rows_fit lengths n b (to - j) j i ≡ None
    rows_stop e = rows_next ∙ ap (λ (o : Option ℕ). o >>= rows_fit lengths n b (to - (j + 1)) (j + 1)) (sym e)

    pub rows_more : (e : ℕ) → Some e ≡ when (row_fits lengths n b j i) (i + codes_of_row lengths b j) → rows_fit lengths n b (to - j) j i ≡ rows_fit lengths n b (to - (j + 1)) (j + 1) e
    rows_more e h = rows_next ∙ ap (λ (o : Option ℕ). o >>= rows_fit lengths n b (to - (j + 1)) (j + 1)) (sym h)
