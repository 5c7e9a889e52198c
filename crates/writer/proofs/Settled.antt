-- One reply keeps the promise of writing, and one only, with one buffer, for any tables, buffer and place. Assumes nothing.
use Prim.Native.Nat.{ℕ}
use mathlib.Core.Path.{◌≡◌}
use mathlib.Core.List.{List}
use Rattle.rinex.specs.Tables.{FlatEpoch, FlatHead, Counts, Buffers}
use Rattle.rinex.specs.Promises.{Write, WriteEpoch, Keeps}
use Rattle.rinex.proofs.Settled.{settled, alike}
use Rattle.write_reply.specs.declared.Reply.{Reply}
use Rattle.write_reply.specs.Replies.{told}

pub one_reply : (h : FlatHead) (n : Counts) (b : Buffers) (out a c : List ℕ) (at : ℕ) (r s : Reply)
    → Keeps told (Write h n b out a at) r → Keeps told (Write h n b out c at) s → (r ≡ s) × (a ≡ c)
one_reply h n b out a c at r s x y =
    let e = settled.write h n b out a c at x.reply y.reply x.kept y.kept in
    (alike told (Write h n b out a at) (Write h n b out c at) r s x y e.0, e.1)

pub one_epoch_reply : (lengths : List ℕ) (p : FlatEpoch) (b : Buffers) (out a c : List ℕ) (at : ℕ) (r s : Reply)
    → Keeps told (WriteEpoch lengths p b out a at) r → Keeps told (WriteEpoch lengths p b out c at) s → (r ≡ s) × (a ≡ c)
one_epoch_reply lengths p b out a c at r s x y =
    let e = settled.write_epoch lengths p b out a c at x.reply y.reply x.kept y.kept in
    (alike told (WriteEpoch lengths p b out a at) (WriteEpoch lengths p b out c at) r s x y e.0, e.1)
