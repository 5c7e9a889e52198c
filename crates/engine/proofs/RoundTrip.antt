-- THE ROUND TRIP over the calls: `Reads` and `Keeps` are what `read` and `write` ensure. Assumes nothing.
use Prim.Native.Nat.{ℕ}
use mathlib.Core.Path.{◌≡◌, sym, ap, ◌∙◌, subst}
use mathlib.Core.List.{List}
use native.Mathlib.Omega.{arith}
use lib.ListN.{take, drop}
use Rattle.rinex.specs.File.{File}
use Rattle.rinex.specs.Spells.{Spells}
use Rattle.rinex.specs.Tables.{FlatHead, Counts, Buffers, laid, room, Fits}
use Rattle.rinex.specs.Normal.{normal}
use Rattle.rinex.specs.Lent.{head_of, counts_of}
use Rattle.rinex.specs.Promises.{Read, taken, Spelled, WriteReply, written, no_text, no_place, Write, Keeps}
use Rattle.rinex.proofs.RoundTrip.{round_trip}
use Rattle.reader.specs.Reading.{reply_of, Reads}
use Rattle.read_reply.specs.declared.Reply as reading
use Rattle.reader.proofs.Settled.{same_reply}
use Rattle.write_reply.specs.Replies.{told}
use Rattle.write_reply.specs.declared.Reply as writing

-- what number 0 says
pub taken_so : (t : List ℕ) (b a : Buffers) (r : reading.Reply) → Reads t b a r → r.number ≡ 0 → Read t b a (taken (head_of r.head) (counts_of r.counts))
taken_so t b a r x z = subst (λ (n : ℕ). Read t b a (reply_of n r)) z x.promise

written_so : (P : WriteReply → Type 0) (w : writing.Reply) → Keeps told P w → w.number ≡ 0 → P (written w.count)
written_so P w k z = at k.reply k.told_so k.kept
  where
    at : (q : WriteReply) → w ≡ told q → P q → P (written w.count)
    at (written n) e p = subst (λ (m : ℕ). P (written m)) (sym (ap (λ (x : writing.Reply). x.count) e)) p
    at no_text e p = let n : w.number ≡ 20 = ap (λ (x : writing.Reply). x.number) e in absurd (omega (arith, n, z))
    at no_place e p = let n : w.number ≡ 21 = ap (λ (x : writing.Reply). x.number) e in absurd (omega (arith, n, z))

-- an accepted text, written and read again: the same reply, the same tables
pub again : (t : List ℕ) (b a₁ a₂ : Buffers) (out after : List ℕ) (at : ℕ) (r s : reading.Reply) (w : writing.Reply)
    → Reads t b a₁ r → r.number ≡ 0 → Keeps told (Write (head_of r.head) (counts_of r.counts) a₁ out after at) w → w.number ≡ 0
    → Reads (take w.count (drop at after)) b a₂ s → (s ≡ r) × (a₂ ≡ a₁)
again t b a₁ a₂ out after at r s w x z k y q =
    let h : FlatHead = head_of r.head in
    let n : Counts = counts_of r.counts in
    let u : List ℕ = take w.count (drop at after) in
    let e = round_trip.again t b a₁ a₂ h n out after at w.count (reply_of s.number s) (taken_so t b a₁ r x z) (written_so (Write h n a₁ out after at) w k y) q.promise in
    let f : taken h n ≡ reply_of r.number r = ap (λ (m : ℕ). reply_of m r) (sym z) in
    (same_reply u t b b a₂ a₁ s r q x (e.0 ∙ f), e.1)

-- tables that some text spells, written, and read where there is room: accepted, with the same head and counts and the file laid out
pub back : (h : FlatHead) (n : Counts) (b : Buffers) (f : File) (out after : List ℕ) (at : ℕ) (lent a : Buffers) (w : writing.Reply) (r : reading.Reply)
    → Spelled h n b f → Fits (room lent) f → Keeps told (Write h n b out after at) w → w.number ≡ 0 → Reads (take w.count (drop at after)) lent a r
    → (reply_of r.number r ≡ taken h n) × (a ≡ laid f lent) × Spelled h n a f
back h n b f out after at lent a w r s g k z x = round_trip.back h n b f out after at w.count lent a (reply_of r.number r) s g (written_so (Write h n b out after at) w k z) x.promise

-- a normal text, read and written: the same text
pub fixed : (t : List ℕ) (f : File) (b a : Buffers) (out after : List ℕ) (at : ℕ) (r : reading.Reply) (w : writing.Reply)
    → Spells t f → Reads (normal f) b a r → r.number ≡ 0 → Keeps told (Write (head_of r.head) (counts_of r.counts) a out after at) w → w.number ≡ 0
    → take w.count (drop at after) ≡ normal f
fixed t f b a out after at r w s x z k y =
    round_trip.fixed t f b a (head_of r.head) (counts_of r.counts) out after at w.count s (taken_so (normal f) b a r x z) (written_so (Write (head_of r.head) (counts_of r.counts) a out after at) w k y)
