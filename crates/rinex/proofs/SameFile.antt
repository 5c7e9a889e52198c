-- TABLES THAT HOLD ONE FILE, wherever they lie, are written alike and answer alike. Assumes nothing.
use Prim.Native.Nat.{ℕ}
use mathlib.Core.Path.{◌≡◌, sym, subst, ◌∙◌}
use mathlib.Core.List.{List}
use Rattle.rinex.specs.File.{File}
use Rattle.rinex.specs.Tables.{FlatHead, Counts, Buffers}
use Rattle.rinex.specs.Answers.{Answer}
use Rattle.rinex.specs.Promises.{Spelled, WriteReply, written, no_text, no_place, Write, Slotted, ColumnReply, filled, no_tables, no_room, Column, Columned}
use Rattle.rinex.proofs.OneTables.{one_of_tables}
use Rattle.rinex.proofs.Settled.{settled}
use Rattle.rinex.proofs.ColumnSlots.{slot_of}

module _ (h k : FlatHead) (n m : Counts) (b c : Buffers) (f : File) (p : Spelled h n b f) (q : Spelled k m c f) where
  -- what the first hold, the second hold
  held_too : (g : File) → Spelled h n b g → Spelled k m c g
  held_too g x = subst (Spelled k m c) (one_of_tables h n b f g p x) q

  -- so a promise on the first is one on the second
  write_moved : (out after : List ℕ) (at : ℕ) (r : WriteReply) → Write h n b out after at r → Write k m c out after at r
  write_moved out after at (written i) x = (x.0, held_too x.0 x.1, x.2)
  write_moved out after at no_text x = absurd (x.0 f p)
  write_moved out after at no_place x = (x.0, held_too x.0 x.1, x.2, x.3)

  column_moved : (s code : ℕ) (before after : Column) (r : ColumnReply) → Columned h n b s code before after r → Columned k m c s code before after r
  column_moved s code before after (filled i) x = (x.0, held_too x.0 x.1, x.2)
  column_moved s code before after no_tables x = absurd (x.0 f p)
  column_moved s code before after no_room x = (x.0, held_too x.0 x.1, x.2, x.3)

  pub same_write : (out x y : List ℕ) (at : ℕ) (r s : WriteReply) → Write h n b out x at r → Write k m c out y at s → (r ≡ s) × (x ≡ y)
  same_write out x y at r s u v = settled.write k m c out x y at r s (write_moved out x at r u) v

  pub same_slot : (row code : ℕ) (r s : Answer) → Slotted h n b row code r → Slotted k m c row code s → r ≡ s
  same_slot row code r s u v = slot_of h n b f p row code r u ∙ sym (slot_of k m c f q row code s v)

  pub same_column : (s code : ℕ) (before x y : Column) (r t : ColumnReply) → Columned h n b s code before x r → Columned k m c s code before y t → (r ≡ t) × (x ≡ y)
  same_column s code before x y r t u v = settled.column k m c s code before x y r t (column_moved s code before x r u) v
