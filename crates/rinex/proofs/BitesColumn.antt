-- THE PROMISE OF A COLUMN BITES: at the example's tables, or at tables that no text spells, wrong programs are not allowed. What stands in the
-- entries is what `slot` answers (`ColumnSlots`). Assumes nothing.
use Prim.Native.Nat.{ℕ}
use mathlib.Core.Path.{◌≡◌, refl, ap}
use native.Mathlib.Omega.{arith}
use lib.Dec.{leb→le}
use lib.ListN.{get_or, set, replicate}
use Rattle.rinex.specs.Tables.{all_rows, all_slots}
use Rattle.rinex.specs.Answers.{answer_at, answer, answers, float, blank}
use Rattle.rinex.specs.Promises.{Column, ColumnReply, filled, no_tables, no_room, laid_column, Columned}
use Rattle.rinex.proofs.Settled.{settled}
use Rattle.rinex.proofs.Examples.{file}
use Rattle.rinex.proofs.BitesWriting.{head, sizes, tables, held, marred, unspelled_marred, c1c}

-- three entries are lent, for two rows; one entry is too few
abbrev lent : ℕ → Column
lent n = record { kinds = replicate n 9; floats = replicate n (float blank) }

abbrev Asked : ℕ → Column → ColumnReply → Type 0
Asked n after r = Columned head sizes tables 0 c1c (lent n) after r

right : Asked 3 (laid_column (answers file 0 c1c) (lent 3)) (filled 2)
unfolding answers answer answer_at all_rows all_slots
right = (file, held, record { room = record { kinds = leb→le 2 3 tt; floats = leb→le 2 3 tt }; rows = refl; entries = refl })

-- it refuses everything
always_20 : (n : ℕ) (a : Column) → Asked n a no_tables → ⊥
always_20 n a p = p.0 file held

always_16 : (a : Column) → Asked 3 a no_room → ⊥
always_16 a p =
    let e : filled 2 ≡ no_room = (settled.column head sizes tables 0 c1c (lent 3) (laid_column (answers file 0 c1c) (lent 3)) a (filled 2) no_room right p).0 in
    let z : ◌≡◌ {A = ℕ} 0 1 = cc in
    omega arith

-- a made_up count of rows
made_up : (n : ℕ) (a : Column) → (2 ≡ n → ⊥) → Asked 3 a (filled n) → ⊥
made_up n a h p =
    let e : filled 2 ≡ filled n = (settled.column head sizes tables 0 c1c (lent 3) (laid_column (answers file 0 c1c) (lent 3)) a (filled 2) (filled n) right p).0 in
    h cc

-- of tables that no text spells: answered, refused with 16, or changed after 20
abbrev Marred : Column → ColumnReply → Type 0
Marred after r = Columned head sizes marred 0 c1c (lent 3) after r

marred_answered : (n : ℕ) (a : Column) → Marred a (filled n) → ⊥
marred_answered n a p = unspelled_marred p.0 p.1

marred_no_room : (a : Column) → Marred a no_room → ⊥
marred_no_room a p = unspelled_marred p.0 p.1

changed_after_20 : (r : ColumnReply) → Marred (record { kinds = set (replicate 3 9) 0 5; floats = replicate 3 (float blank) }) r → ⊥
changed_after_20 r p =
    let e = (settled.column head sizes marred 0 c1c (lent 3) (lent 3) (record { kinds = set (replicate 3 9) 0 5; floats = replicate 3 (float blank) }) no_tables r (unspelled_marred, refl) p).1 in
    let z : ◌≡◌ {A = ℕ} 9 5 = ap (λ (c : Column). get_or c.kinds 0 0) e in
    omega arith
