-- THE PROMISES BITE AT A ZERO: at the example with a printed zero in its last row, and at its tables with that value given as 0, wrong programs
-- are not allowed. Assumes nothing.
use Prim.Native.Nat.{ℕ}
use mathlib.Core.Path.{◌≡◌, refl, ap, ◌∙◌}
use mathlib.Core.Bool.{true, false}
use mathlib.Core.List.{List}
use Rattle.std.specs.Prelude.{None, Some}
use native.Mathlib.Omega.{arith}
use lib.Dec.{leb→le}
use lib.ListN.{get_or, set}
use lib.Ieee.{Float}
use Rattle.lists.specs.Lists.{bytes}
use Rattle.lists.proofs.Bools.{never}
use Rattle.rinex.specs.File.{Slot, Epoch, File}
use Rattle.rinex.specs.Data.{RowLine}
use Rattle.rinex.specs.Tables.{all_rows, all_slots, flat_head, flat_epoch, Buffers, laid_codes, laid, room}
use Rattle.rinex.specs.Tests.{mark_at, slot_of, slots_of}
use Rattle.rinex.specs.Fit
use Rattle.rinex.specs.Answers.{metres, blank}
use Rattle.rinex.specs.Promises.{ReadReply, taken, turned_away, Read, Spelled, written, no_place, Write, EpochSpelled, WriteEpoch, Slotted, Column, filled, Columned}
use Rattle.rinex.specs.Theorems.{GivenZero}
use Rattle.rinex.proofs.Rows.{row_of, row_found}
use Rattle.rinex.proofs.FitEpoch.{fit_epoch}
use Rattle.rinex.proofs.Zeros.{zero_missing}
use Rattle.rinex.proofs.Examples.{judged_in, counted, file}
use Rattle.rinex.proofs.Examples as examples
use Rattle.rinex.proofs.ExampleSpelled.{plain_line, row_r, text_with, file_with, spelled_with}
use Rattle.rinex.proofs.Bites.{lent, Only, only_taken}
use Rattle.rinex.proofs.BitesWriting.{head, sizes, tables, out, c1c}

-- READING: the value of R12 is printed as zero, with the marks 1 and 9
abbrev line : List ℕ
line = bytes "R12         0.00019"

abbrev slot : Slot
slot = record { value = None; loss = Some 1; strength = Some 9 }

row : RowLine file.head.lists line (row_r slot)
unfolding judged_in mark_at slot_of slots_of row_of
row = row_found file.head.lists line refl (leb→le 1 1 tt) refl

abbrev zero : List ℕ
zero = text_with line

at_zero : Only zero (laid (file_with slot) lent) (taken (flat_head file.head) (counted 1 2 3 0))
unfolding judged_in room lent
at_zero = only_taken zero (file_with slot) (counted 1 2 3 0) (spelled_with line slot (plain_line line refl tt) row) refl

-- the text is refused
refused : (number line : ℕ) (a : Buffers) → Read zero lent a (turned_away number line) → ⊥
refused n k a p =
    let e : taken (flat_head file.head) (counted 1 2 3 0) ≡ turned_away n k = at_zero.reply a _ p in
    let z : ◌≡◌ {A = ℕ} 0 1 = cc in
    omega arith

-- the zero is held as given; one of its marks is held as blank
held_as_given : (a : Buffers) (r : ReadReply) → get_or a.states 2 0 ≡ 1 → Read zero lent a r → ⊥
unfolding lent laid laid_codes all_rows all_slots
held_as_given a r h p =
    let z : ◌≡◌ {A = ℕ} 0 1 = ap (λ (b : Buffers). get_or b.states 2 0) (at_zero.tables a r p) ∙ h in
    omega arith

loss_lost : (a : Buffers) (r : ReadReply) → get_or a.losses 2 0 ≡ 255 → Read zero lent a r → ⊥
unfolding lent laid laid_codes all_rows all_slots
loss_lost a r h p =
    let z : ◌≡◌ {A = ℕ} 1 255 = ap (λ (b : Buffers). get_or b.losses 2 0) (at_zero.tables a r p) ∙ h in
    omega arith

strength_lost : (a : Buffers) (r : ReadReply) → get_or a.strengths 2 0 ≡ 255 → Read zero lent a r → ⊥
unfolding lent laid laid_codes all_rows all_slots
strength_lost a r h p =
    let z : ◌≡◌ {A = ℕ} 9 255 = ap (λ (b : Buffers). get_or b.strengths 2 0) (at_zero.tables a r p) ∙ h in
    omega arith

-- WRITING AND QUESTIONS: the example's tables, the blank value of R12 given as 0
unfoldable given : Buffers
given =
    record {
      codes = tables.codes;
      times = tables.times;
      time_states = tables.time_states;
      flags = tables.flags;
      counts = tables.counts;
      clocks = tables.clocks;
      clock_states = tables.clock_states;
      satellites = tables.satellites;
      numbers = tables.numbers;
      states = set tables.states 2 1;
      losses = tables.losses;
      strengths = tables.strengths;
      carried = tables.carried;
    }

given_zero : GivenZero given 2
unfolding given lent laid laid_codes all_rows all_slots
given_zero = record { state = refl; number = refl }

unspelled : (f : File) → Spelled head sizes given f → ⊥
unspelled f s = zero_missing.tables head sizes given f 2 s (leb→le 3 3 tt) given_zero

-- it is written, or finds no place
given_written : (n : ℕ) (a : List ℕ) → Write head sizes given out a 3 (written n) → ⊥
given_written n a p = unspelled p.0 p.1

given_no_place : (a : List ℕ) → Write head sizes given out a 3 no_place → ⊥
given_no_place a p = unspelled p.0 p.1

-- it is handed on as a number of metres, zero or any other, or as blank; or in a column
given_in_metres : (x : Float) → Slotted head sizes given 1 c1c (metres x) → ⊥
given_in_metres x p = unspelled p.file p.spelled

given_as_blank : Slotted head sizes given 1 c1c blank → ⊥
given_as_blank p = unspelled p.file p.spelled

given_in_column : (b a : Column) (n : ℕ) → Columned head sizes given 0 c1c b a (filled n) → ⊥
given_in_column b a n p = unspelled p.0 p.1

-- its epoch is written alone
epoch_unspelled : (e : Epoch) → EpochSpelled head.lengths (flat_epoch examples.only) given e → ⊥
unfolding examples.fitting flat_epoch Fit.lent Fit.lone_epoch_fits lent given
epoch_unspelled e s = let x : false ≡ true = fit_epoch.complete head.lengths (flat_epoch examples.only) given e s in never x

given_alone : (n : ℕ) (a : List ℕ) → WriteEpoch head.lengths (flat_epoch examples.only) given out a 3 (written n) → ⊥
given_alone n a p = epoch_unspelled p.0 p.1
