-- A PRINTED ZERO IS A MISSING OBSERVATION: it is held as blank, and no slot that some text spells is given as 0. Assumes nothing.
use Prim.Native.Nat.{ℕ, zero, suc, ◌+◌, ◌<◌}
use mathlib.Core.Path.{◌≡◌, refl, sym, ap, ◌∙◌, subst}
use mathlib.Core.List.{List, [], ◌∷◌}
use Rattle.std.specs.Prelude.{Option, None, Some}
use native.Mathlib.Omega.{arith}
use lib.IntN.{ℤ, pos, negsuc}
use lib.ListN.{length, get_or}
use borrow.Author.Tests.{ne_eqb}
use Rattle.lists.specs.Lists.{All}
use Rattle.lists.specs.Blank.{Blank}
use Rattle.lists.proofs.Maybe.{none_some}
use Rattle.field.specs.Field.{Decimal, Mark}
use Rattle.field.proofs.Found.{decimal_or_blank_is}
use Rattle.line.specs.Text.{col, cols}
use Rattle.rinex.specs.File.{Slot, Epoch, observed, event, File}
use Rattle.rinex.specs.Data.{EpochLine, held_as, Value, SlotAt}
use Rattle.rinex.specs.Tables.{state_of, signed_of, rows_of, FlatEpoch, all_rows, all_slots, FlatHead, Counts, counts, Buffers}
use Rattle.rinex.specs.Promises.{taken, Read, Spelled, EpochSpelled}
use Rattle.rinex.specs.Theorems.{GivenZero}
use Rattle.rinex.specs.Theorems
use Rattle.rinex.proofs.Rows.{value_is}
use Rattle.rinex.proofs.Forms.{SlotForm, RowForm, EpochForm, epoch_form, file_form, all_rows_form, all_slots_form}
use Rattle.rinex.proofs.Lent.{SlotsLie}
use Rattle.rinex.proofs.FitTables.{lent_slots}
use Rattle.rinex.proofs.HeldFile.{epoch_slots}
use Rattle.rinex.proofs.RoundTrip.{round_trip}

-- what is held of a field that spells a number
held_of : (s : List ℕ) (z : ℤ) (v : Option ℤ) → Decimal 3 s z → Value s v → v ≡ held_as (Some z)
held_of s z v d h = value_is s v h ∙ sym (ap held_as (decimal_or_blank_is 3 s (Some z) d))

pub kept : (z : ℤ) → (z ≡ pos 0 → ⊥) → held_as (Some z) ≡ Some z
kept (pos zero) h = absurd (h refl)
kept (pos (suc n)) h = rw (ne_eqb (suc n) 0 (λ e. omega arith))
kept (negsuc n) h = refl

fit : (s : List ℕ) (z : ℤ) → Decimal 3 s z → (v : Option ℤ) × Value s v
fit s z d = (held_as (Some z), record { printed = Some z; columns = d; held = refl })

marks : (a : ℕ) (l m : List ℕ) (s : Slot) → Decimal 3 (cols a (a + 13) l) (pos 0) → Blank (cols a (a + 13) m)
    → col (a + 14) l ≡ col (a + 14) m → col (a + 15) l ≡ col (a + 15) m → SlotAt a l s → SlotAt a m s
marks a l m s d b e f h =
    record {
      value = record { printed = None; columns = b; held = held_of (cols a (a + 13) l) (pos 0) s.value d h.value };
      loss = subst (λ (x : ℕ). Mark 7 x s.loss) e h.loss;
      strength = subst (λ (x : ℕ). Mark 9 x s.strength) f h.strength;
    }

clock : (l : List ℕ) (time : Option ℕ) (flag count : ℕ) (c : Option ℤ) → Decimal 12 (cols 42 56 l) (pos 0) → EpochLine l time flag count c → c ≡ Some (pos 0)
clock l time flag count c d h = decimal_or_blank_is 12 (cols 42 56 l) c h.clock_at ∙ sym (decimal_or_blank_is 12 (cols 42 56 l) (Some (pos 0)) d)

-- what is held of itself is not a given 0
not_zero : (v : Option ℤ) → held_as v ≡ v → state_of v ≡ 1 → signed_of v ≡ pos 0 → ⊥
not_zero None h s n = omega (arith, s)
not_zero (Some z) h s n = none_some z (sym (ap (λ (x : ℤ). held_as (Some x)) n) ∙ h)

-- slots that lie in tables, slot j among those from i on
no_slot : (b : Buffers) (ss : List Slot) (i k j : ℕ) → SlotsLie b i ss → All SlotForm ss → k < length ss → j ≡ i + k → GivenZero b j → ⊥
no_slot b [] i k j l f h e g = omega (arith, h)
no_slot b (s ∷ ss) i zero j l f h e g =
    let q : i ≡ j = omega (arith, e) in
    not_zero s.value f.0.value.held
    (sym l.0.state ∙ (ap (λ (x : ℕ). get_or b.states x 0) q ∙ g.state)) (sym l.0.number ∙ (ap (λ (x : ℕ). get_or b.numbers x (pos 0)) q ∙ g.number))
no_slot b (s ∷ ss) i (suc k) j l f h e g = no_slot b ss (i + 1) k j l.1 f.1 (omega arith) (omega (arith, e)) g

rows_form : (lists : List (List (List ℕ))) (e : Epoch) → EpochForm lists e → All (RowForm lists) (rows_of e)
rows_form lists (observed o) f = f.rows
rows_form lists (event v) f = tt

tables : (h : FlatHead) (n : Counts) (b : Buffers) (f : File) (i : ℕ) → Spelled h n b f → i < n.slots → GivenZero b i → ⊥
unfolding counts
tables h n b f i s k g =
    let form = file_form s.a_text f s.spells in
    let many : n.slots ≡ length (all_slots (all_rows f.epochs)) = ap (λ (x : Counts). x.slots) s.hold.lengths in
    no_slot b (all_slots (all_rows f.epochs)) 0 i i (lent_slots b f form s.hold.fits s.hold.entries)
    (all_slots_form f.head.lists (all_rows f.epochs) (all_rows_form f.head.lists f.epochs form.epochs)) (omega (arith, k, many)) (omega arith) g

epoch : (lengths : List ℕ) (p : FlatEpoch) (b : Buffers) (e : Epoch) (i : ℕ) → EpochSpelled lengths p b e → i < length (all_slots (rows_of e)) → GivenZero b i → ⊥
epoch lengths p b e i s k g =
    no_slot b (all_slots (rows_of e)) 0 i i (epoch_slots lengths p b e s)
    (all_slots_form s.lists (rows_of e) (rows_form s.lists e (epoch_form s.lists s.lines e s.spells s.plain))) k (omega arith) g

read : (t : List ℕ) (b a : Buffers) (h : FlatHead) (n : Counts) (i : ℕ) → Read t b a (taken h n) → i < n.slots → GivenZero a i → ⊥
read t b a h n i r k g = let x = round_trip.held t b a h n r in tables h n a x.0 i x.2 k g

pub zero_missing : Theorems.ZeroMissing
zero_missing =
    record {
      zero = λ s v d h. held_of s (pos 0) v d h;
      other = λ s z v d k h. held_of s z v d h ∙ kept z k;
      fit = fit;
      marks = marks;
      clock = clock;
      tables = tables;
      epoch = epoch;
      read = read;
    }
