-- A slot is 16 columns of its line: its value and marks stand there, and past the line's end they are blank. Assumes nothing.
use Prim.Native.Nat.{ℕ, suc, ◌+◌, ◌-◌, ◌≤◌, ◌<◌}
use mathlib.Core.Path.{◌≡◌, refl, sym, ap, ◌∙◌}
use mathlib.Core.Bool.{Bool, true, false, ◌&&◌, and_assoc}
use mathlib.Core.List.{List}
use Rattle.std.specs.Prelude.{Result, Ok, Err, is_ok}
use native.Mathlib.Omega.{arith}
use lib.ListN.{length, get_or, take, drop}
use Rattle.lists.specs.Blank.{is_blank, Blank}
use Rattle.field.specs.Found.{mark_fits}
use Rattle.line.specs.Text.{col, cols, past}
use Rattle.line.proofs.Columns.{window, cols_window, cols_front, cols_end, cols_within}
use Rattle.rinex.specs.Tables.{mark_of}
use Rattle.rinex.specs.Tests.{value_fits, slots_fit, mark_at}
use Rattle.rinex.proofs.Rows.{mark_found, mark_is, mark_fits_lem}
use Rattle.row.specs.Lines.{HoldsMark}
use Rattle.row.specs.Steps.{slot_columns, slot_fits}
use Rattle.field.specs.declared.Unfit.{Unfit}
use Rattle.lists.proofs.Parts.{get_d_over}

-- what a mark's answer says of the test and of the table
pub record ToldMark (top b m : ℕ) : Type 0 where
  pub fits : mark_fits top b ≡ true
  pub mark_is : m ≡ mark_of (mark_at b)

pub mark_held : (top b m : ℕ) → top ≤ 9 → HoldsMark top b (Ok m) → ToldMark top b m
mark_held top b m k h = record { fits = mark_fits_lem top b k h.0 h.1; mark_is = h.2 ∙ ap mark_of (mark_is top b h.0 h.1) }

pub mark_unfit : (top b : ℕ) (u : Unfit) → HoldsMark top b (Err u) → mark_fits top b ≡ false
mark_unfit top b u h = go (mark_fits top b) refl
  where
    go : (c : Bool) → mark_fits top b ≡ c → c ≡ false
    go true e = absurd (h (mark_at b) (mark_found top b e))
    go false e = refl

-- so the test is whether there is an answer
pub mark_test : (top b : ℕ) → top ≤ 9 → (r : Result ℕ Unfit) → HoldsMark top b r → is_ok r ≡ mark_fits top b
mark_test top b k (Ok m) h = sym (mark_held top b m k h).fits
mark_test top b k (Err u) h = sym (mark_unfit top b u h)

-- the 16 columns of the slot from column a on
module _ (a : ℕ) (l : List ℕ) (from : 1 ≤ a) where
  in_window : slot_columns a l ≡ window 16 (a - 1) l
  in_window = let e : a + 15 + 1 - a ≡ 16 = omega arith in rw e at (cols_window a (a + 15) l)

  pub value_at : take 14 (slot_columns a l) ≡ cols a (a + 13) l
  value_at = let e : a + 13 - a + 1 ≡ 14 = omega arith in rw e at (cols_front a (a + 13) (a + 15) l (omega arith) (omega arith))

  pub loss_at : get_or (slot_columns a l) 14 0 ≡ col (a + 14) l
  unfolding col
  loss_at =
      let e : suc (suc (suc (suc (suc (suc (suc (suc (suc (suc (suc (suc (suc (suc (a - 1)))))))))))))) ≡ a + 14 - 1 = omega arith in
      ap (λ (s : List ℕ). get_or s 14 0) in_window ∙ ap (λ (i : ℕ). get_or l i 32) e

  pub strength_at : get_or (slot_columns a l) 15 0 ≡ col (a + 15) l
  unfolding col
  strength_at =
      let e : suc (suc (suc (suc (suc (suc (suc (suc (suc (suc (suc (suc (suc (suc (suc (a - 1))))))))))))))) ≡ a + 15 - 1 = omega arith in
      ap (λ (s : List ℕ). get_or s 15 0) in_window ∙ ap (λ (i : ℕ). get_or l i 32) e

  fits_at : slot_fits (slot_columns a l) ≡ (value_fits (cols a (a + 13) l) && (mark_fits 7 (col (a + 14) l) && mark_fits 9 (col (a + 15) l)))
  unfolding slot_fits
  fits_at = rw (value_at, loss_at, strength_at)

  -- the part of a line that is long enough
  pub slot_part : a + 15 ≤ length l → take (a + 15 - (a - 1)) (drop (a - 1) l) ≡ slot_columns a l
  slot_part h = let e : a + 15 - (a - 1) ≡ a + 15 + 1 - a = omega arith in rw e (sym (cols_within a (a + 15) l from h))

  -- past the line's end
  module _ (end : length l ≤ a - 1) where
    pub past_fits : slot_fits (slot_columns a l) ≡ true
    unfolding value_fits col mark_fits
    past_fits =
        let h : Blank (cols a (a + 13) l) = cols_end a (a + 13) l (omega arith) in
        fits_at ∙ rw (h, get_d_over l (a + 14 - 1) 32 (omega arith), get_d_over l (a + 15 - 1) 32 (omega arith))

-- a turn of a loop that goes from slot to slot, where n are left
module _ (n a : ℕ) (l : List ℕ) where
  pub slots_next : 0 < n → 1 ≤ a → slots_fit n a l ≡ (slot_fits (slot_columns a l) && slots_fit (n - 1) (a + 16) l)
  unfolding slots_fit
  slots_next h from =
      let e : n ≡ suc (n - 1) = omega arith in
      ap (λ (k : ℕ). slots_fit k a l) e ∙ rw (fits_at a l from, and_assoc, and_assoc)

  pub slots_on : 0 < n → 1 ≤ a → slot_fits (slot_columns a l) ≡ true → slots_fit (n - 1) (a + 16) l ≡ slots_fit n a l
  slots_on h from e = sym (slots_next h from ∙ rw e)

  pub slots_stop : 0 < n → 1 ≤ a → slot_fits (slot_columns a l) ≡ false → slots_fit n a l ≡ false
  slots_stop h from e = slots_next h from ∙ rw e

  pub slots_end : n ≤ 0 → slots_fit n a l ≡ is_blank (past (a - 1) l)
  unfolding slots_fit
  slots_end h = let e : n ≡ 0 = omega arith in rw e
