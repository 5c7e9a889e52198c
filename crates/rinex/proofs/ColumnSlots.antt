-- A COLUMN HAS WHAT `slot` ANSWERS, over the promises. Assumes nothing.
use Prim.Native.Nat.{ℕ, zero, suc, ◌+◌, ◌/◌, ◌≤◌, ◌<◌}
use mathlib.Core.Path.{◌≡◌, refl, sym, ap, ◌∙◌}
use mathlib.Core.List.{List, [], ◌∷◌, map}
use native.Mathlib.Omega.{arith}
use lib.Ieee.{Float}
use lib.ListN.{length, get_or, length-map}
use lib.Seq.{sets}
use borrow.Author.Tests.{eq-eqb, ne_eqb}
use Rattle.lists.proofs.Bools.{Either, left, right}
use Rattle.lists.proofs.Lists.{all_at}
use Rattle.rinex.specs.File.{Row, File, satellite}
use Rattle.rinex.specs.Tables.{all_rows, FlatHead, Counts, counts, Buffers, laid, room}
use Rattle.rinex.specs.Answers.{Answer, not_declared, kind, float, answer_of, row_answer, answer, answer_in, answers}
use Rattle.rinex.specs.Promises.{Spelled, Answers, Slotted, filled, Column, laid_column, Columned}
use Rattle.rinex.proofs.Forms.{RowForm, file_form, all_rows_form}
use Rattle.lists.proofs.Apart.{sets_in}
use Rattle.rinex.proofs.OneTables.{one_of_tables}
use Rattle.rinex.proofs.Settled.{None, told}
use Rattle.rinex.specs.Theorems

pub no_row : Row
no_row = record { system = 0; number = 0; slots = [] }

pub map_at : {A B : Type 0} (g : A → B) (xs : List A) (i : ℕ) (d : B) (e : A) → i < length xs → get_or (map g xs) i d ≡ g (get_or xs i e)
map_at g [] i d e h = absurd (omega arith)
map_at g (x ∷ xs) zero d e h = refl
map_at g (x ∷ xs) (suc i) d e h = map_at g xs i d e (omega arith)

-- a column of entries that are stored
stored : {A B : Type 0} (b : List A) (g : B → A) (xs : List B) (i : ℕ) (d : A) (e : B) → i < length xs → length xs ≤ length b → get_or (sets b 0 (map g xs)) i d ≡ g (get_or xs i e)
stored b g xs i d e h m =
    let l : length (map g xs) ≡ length xs = length-map xs g in
    let z : 0 + i ≡ i = omega arith in
    (rw z at (sets_in (map g xs) b 0 i d (omega arith) (omega arith))) ∙ map_at g xs i d e h

pub row_at : (lists : List (List (List ℕ))) (rs : List Row) (i code : ℕ) → i < length rs → row_answer lists rs i code ≡ answer_of lists code (get_or rs i no_row)
row_at lists [] i code h = absurd (omega arith)
row_at lists (r ∷ rs) zero code h = refl
row_at lists (r ∷ rs) (suc i) code h = row_at lists rs i code (omega arith)

-- a row of tables that hold a file: its system, as the table of rows has it, and what is answered for it
module _ (h : FlatHead) (n : Counts) (b : Buffers) (f : File) (q : Spelled h n b f) (i : ℕ) where
  pub row_form : i < length (all_rows f.epochs) → RowForm f.head.lists (get_or (all_rows f.epochs) i no_row)
  row_form m =
      all_at (RowForm f.head.lists) no_row (all_rows f.epochs) i (all_rows_form f.head.lists f.epochs (file_form q.a_text f q.spells).epochs) m

  pub system_of : i < length (all_rows f.epochs) → get_or b.satellites i 0 / 100 ≡ (get_or (all_rows f.epochs) i no_row).system
  unfolding laid room counts
  system_of m =
      let e : get_or b.satellites i 0 ≡ satellite (get_or (all_rows f.epochs) i no_row) =
      ap (λ (y : Buffers). get_or y.satellites i 0) (sym q.hold.entries) ∙ stored b.satellites satellite (all_rows f.epochs) i 0 no_row m q.hold.fits.rows in
      omega (arith, e, (row_form m).number)

  pub slot_of : (code : ℕ) (y : Answer) → Slotted h n b i code y → y ≡ answer f i code
  slot_of code y p = at (told h n b i code y p)
    where
      at : Either (Answers h n b i code y) (None h n b i code y) → y ≡ answer f i code
      at (left z) = z.answers ∙ ap (λ (g : File). answer g i code) (one_of_tables h n b z.file f z.spelled q)
      at (right z) = absurd (z.1 f q)

module _ (h : FlatHead) (n : Counts) (b : Buffers) (s code i k : ℕ) (c a : Column) (d : Float) (p : Columned h n b s code c a (filled k)) (m : i < k) where
  abbrev f : File
  f = p.0

  abbrev rs : List Row
  rs = all_rows p.0.epochs

  abbrev r : Row
  r = get_or (all_rows p.0.epochs) i no_row

  here : i < length rs
  unfolding answers
  here = omega (arith, p.2.rows, length-map (all_rows p.0.epochs) (answer_in p.0.head.lists s code))

  -- the answer for the row
  abbrev x : Answer
  x = answer_in p.0.head.lists s code (get_or (all_rows p.0.epochs) i no_row)

  there : get_or (answers f s code) i not_declared ≡ x
  unfolding answers
  there = map_at (answer_in f.head.lists s code) rs i not_declared no_row here

  entries : (get_or a.kinds i 0 ≡ kind x) × (get_or a.floats i d ≡ float x)
  unfolding laid_column
  entries =
      let l : i < length (answers f s code) = omega (arith, p.2.rows) in (
        ap (λ (y : Column). get_or y.kinds i 0) p.2.entries ∙ (stored c.kinds kind (answers f s code) i 0 not_declared l p.2.room.kinds ∙ ap kind there),
        ap (λ (y : Column). get_or y.floats i d) p.2.entries ∙ (stored c.floats float (answers f s code) i d not_declared l p.2.room.floats ∙ ap float there),
      )

  system : get_or b.satellites i 0 / 100 ≡ r.system
  system = system_of h n b f p.1 i here

  asked_of : get_or b.satellites i 0 / 100 ≡ s → x ≡ answer f i code
  unfolding answer
  asked_of e =
      rw (eq-eqb r.system s (sym system ∙ e)) (sym (row_at f.head.lists rs i code here))

  other_of : (get_or b.satellites i 0 / 100 ≡ s → ⊥) → x ≡ not_declared
  other_of e = rw (ne_eqb r.system s (λ q. e (system ∙ q)))

pub column_of_slots : Theorems.ColumnOfSlots
column_of_slots =
    record {
      asked = λ h n b s code i k c a y d p q m e.
          let z = asked_of h n b s code i k c a d p m e ∙ sym (slot_of h n b p.0 p.1 i code y q) in
          let w = entries h n b s code i k c a d p m in
          (w.0 ∙ ap kind z, w.1 ∙ ap float z);
      other = λ h n b s code i k c a d p m e.
          let z = other_of h n b s code i k c a d p m e in
          let w = entries h n b s code i k c a d p m in
          (w.0 ∙ ap kind z, w.1 ∙ ap float z);
    }
