-- One struct keeps the promise of a slot, told in numbers, and one only. The other calls have their operation's own struct, so for them
-- `reader`, `writer` and `slots` say it, in `proofs/Settled`. Assumes nothing.
use Prim.Native.Nat.{ℕ}
use mathlib.Core.Path.{◌≡◌, refl, sym, ap, ◌∙◌}
use lib.Ieee.{Float}
use Rattle.rinex.specs.Tables.{FlatHead, Counts, Buffers}
use Rattle.rinex.specs.Answers.{Answer, kind, float}
use Rattle.rinex.specs.Promises.{Slotted}
use Rattle.rinex.proofs.Settled.{settled}
use Rattle.engine.specs.declared.Slot.{Slot}
use Rattle.engine.specs.Told.{Tells}

made : ℕ → Float → Slot
made k x = record { kind = k; value = x }

made_is : (r : Slot) → made r.kind r.value ≡ r
unfolding made
made_is r = refl

-- an answer in numbers, and that what tells an answer is that
pub told : Answer → Slot
told a = made (kind a) (float a)

pub told_so : (P : Answer → Type 0) (r : Slot) (x : Tells P r) → r ≡ told x.answer
unfolding told
told_so P r x = cc (made_is r, x.kind_is, x.value_is)

pub one_slot : (h : FlatHead) (n : Counts) (b : Buffers) (row code : ℕ) (r s : Slot)
    → Tells (Slotted h n b row code) r → Tells (Slotted h n b row code) s → r ≡ s
one_slot h n b row code r s x y =
    let P : Answer → Type 0 = Slotted h n b row code in
    let e : x.answer ≡ y.answer = settled.slot h n b row code x.answer y.answer x.kept y.kept in
    told_so P r x ∙ (ap told e ∙ sym (told_so P s y))
