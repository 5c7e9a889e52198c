-- MORE ROOM over the calls: `Reads`, `Keeps` and `Tells` are what they ensure. That of `pistrovelle_read` is `read`'s, so `reader` has the theorem for it; what it
-- accepts it accepts with more room. And whatever the two sets of buffers into which a text was read, the file that is then written whole and the slots that are handed on are the same. Assumes nothing.
use Prim.Native.Nat.{ℕ}
use mathlib.Core.Path.{◌≡◌, sym, ap, subst, ◌∙◌}
use mathlib.Core.List.{List}
use native.Mathlib.Omega.{arith}
use Rattle.rinex.specs.File.{File}
use Rattle.rinex.specs.Tables.{FlatHead, Counts, Buffers}
use Rattle.rinex.specs.Lent.{head_of, counts_of}
use Rattle.rinex.specs.Promises.{taken, turned_away, Spelled, Write, Slotted, Column, Columned, Keeps}
use Rattle.rinex.specs.MoreRoom.{NowhereShorter}
use Rattle.rinex.proofs.Agree.{one_of_text}
use Rattle.rinex.proofs.RoundTrip.{round_trip}
use Rattle.rinex.proofs.Settled.{alike}
use Rattle.rinex.proofs.SameFile.{same_write, same_slot, same_column}
use Rattle.reader.specs.Reading.{reply_of, Reads}
use Rattle.reader.proofs.MoreRoom.{meant, more_read}
use Rattle.read_reply.specs.declared.Reply as reading
use Rattle.write_reply.specs.Replies as write
use Rattle.write_reply.specs.declared.Reply as writing
use Rattle.slot_answers.specs.Handed as column
use Rattle.slot_answers.specs.declared.Reply as columns
use Rattle.engine.specs.declared.Slot.{Slot}
use Rattle.engine.specs.Told.{Tells}
use Rattle.engine.proofs.RoundTrip.{taken_so}
use Rattle.engine.proofs.Settled.{told, told_so}

-- no number is 0 and 16
not_lacking : (r : reading.Reply) → r.number ≡ 0 → (k : ℕ) → meant r ≡ turned_away 16 k → ⊥
not_lacking r p k e =
    let d : taken (head_of r.head) (counts_of r.counts) ≡ turned_away 16 k = ap (λ (n : ℕ). reply_of n r) (sym p) ∙ e in
    let z : ◌≡◌ {A = ℕ} 0 1 = cc in
    omega arith

pub taken_too : (t : List ℕ) (b a c d : Buffers) (r s : reading.Reply) → NowhereShorter b c → Reads t b a r → Reads t c d s → r.number ≡ 0 → s.number ≡ 0
taken_too t b a c d r s w x y p = ap (λ (z : reading.Reply). z.number) (more_read.same t b a c d r s w x y (not_lacking r p)).0 ∙ p

module _ (t : List ℕ) (b a c d : Buffers) (r s : reading.Reply) (x : Reads t b a r) (y : Reads t c d s) (p : r.number ≡ 0) (q : s.number ≡ 0) where
  -- what the two replies have by value
  abbrev h : FlatHead
  h = head_of r.head

  abbrev n : Counts
  n = counts_of r.counts

  abbrev k : FlatHead
  k = head_of s.head

  abbrev m : Counts
  m = counts_of s.counts

  -- both tables hold the file of the text
  one_file : (f : File) × Spelled h n a f × Spelled k m d f
  one_file =
      let u = round_trip.held t b a h n (taken_so t b a r x p) in
      let v = round_trip.held t c d k m (taken_so t c d s y q) in
      (u.0, u.2, subst (Spelled k m d) (one_of_text t v.0 u.0 v.1 u.1) v.2)

  pub write_alike : (out i j : List ℕ) (at : ℕ) (u v : writing.Reply) → Keeps write.told (Write h n a out i at) u → Keeps write.told (Write k m d out j at) v → (u ≡ v) × (i ≡ j)
  write_alike out i j at u v e g =
      let f = one_file in
      let w = same_write h k n m a d f.0 f.1 f.2 out i j at e.reply g.reply e.kept g.kept in
      (alike write.told (Write h n a out i at) (Write k m d out j at) u v e g w.0, w.1)

  pub slot_alike : (row code : ℕ) (u v : Slot) → Tells (Slotted h n a row code) u → Tells (Slotted k m d row code) v → u ≡ v
  slot_alike row code u v e g =
      let f = one_file in
      told_so (Slotted h n a row code) u e ∙ (ap told (same_slot h k n m a d f.0 f.1 f.2 row code e.answer g.answer e.kept g.kept) ∙ sym (told_so (Slotted k m d row code) v g))

  pub column_alike : (system code : ℕ) (before i j : Column) (u v : columns.Reply)
      → Keeps column.told (Columned h n a system code before i) u → Keeps column.told (Columned k m d system code before j) v → (u ≡ v) × (i ≡ j)
  column_alike system code before i j u v e g =
      let f = one_file in
      let w = same_column h k n m a d f.0 f.1 f.2 system code before i j e.reply g.reply e.kept g.kept in
      (alike column.told (Columned h n a system code before i) (Columned k m d system code before j) u v e g w.0, w.1)
