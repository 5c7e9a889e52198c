-- The slot in 16 columns of its line, and the slots of a row one after the other. Assumes nothing.
use Prim.Native.Nat.{ℕ, suc, ◌+◌, ◌-◌, ◌≤◌, ◌<◌}
use mathlib.Core.Path.{◌≡◌, sym, ap, ◌∙◌}
use mathlib.Core.Bool.{true}
use mathlib.Core.List.{List, [], ◌∷◌}
use Rattle.std.specs.Prelude.{None}
use native.Mathlib.Omega.{arith}
use lib.ListN.{length}
use Rattle.lists.specs.Blank.{Blank}
use Rattle.lists.proofs.Bools.{both}
use Rattle.field.proofs.Found.{decimal_blank}
use Rattle.line.specs.Text.{col, cols}
use Rattle.line.proofs.Columns.{cols_end}
use Rattle.rinex.specs.Tests.{slots_fit, mark_at, slot_of, slots_of}
use Rattle.row.specs.Steps.{slot_columns, slot_fits}
use Rattle.row_store.specs.Steps.{slot_in}
use Rattle.row.proofs.Places.{value_at, loss_at, strength_at, slots_next}
use Rattle.lists.proofs.Parts.{get_d_over}

-- the slot in the 16 columns from column a on
module _ (a : ℕ) (l : List ℕ) (from : 1 ≤ a) where
  pub slot_at : slot_in (slot_columns a l) ≡ slot_of a l
  unfolding slot_in slot_of
  slot_at = rw (value_at a l from, loss_at a l from, strength_at a l from)

  -- past the line's end
  pub past_is : length l ≤ a - 1 → slot_of a l ≡ record { value = None; loss = None; strength = None }
  unfolding slot_of col mark_at
  past_is end =
      let h : Blank (cols a (a + 13) l) = cols_end a (a + 13) l (omega arith) in
      rw (decimal_blank 3 (cols a (a + 13) l) h, get_d_over l (a + 14 - 1) 32 (omega arith), get_d_over l (a + 15 - 1) 32 (omega arith))

-- a turn of the loop that goes from slot to slot, where n are left
module _ (n a : ℕ) (l : List ℕ) where
  -- the first of fit slots, and the others
  pub slots_both : 0 < n → 1 ≤ a → slots_fit n a l ≡ true → (slot_fits (slot_columns a l) ≡ true) × (slots_fit (n - 1) (a + 16) l ≡ true)
  slots_both h from e = both (slot_fits (slot_columns a l)) (slots_fit (n - 1) (a + 16) l) (sym (slots_next n a l h from) ∙ e)

  pub slots_more : 0 < n → slots_of n a l ≡ slot_of a l ∷ slots_of (n - 1) (a + 16) l
  unfolding slots_of
  slots_more h = let e : n ≡ suc (n - 1) = omega arith in ap (λ (k : ℕ). slots_of k a l) e

  pub slots_none : n ≤ 0 → slots_of n a l ≡ []
  unfolding slots_of
  slots_none h = let e : n ≡ 0 = omega arith in rw e
